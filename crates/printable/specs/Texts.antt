-- The tests of all texts, as they stand in check 5.
use Rattle.std.specs.Prelude.{Bool, ◌&&◌, List, ℕ}
use Rattle.definition.specs.Edition.{Edition, statements, expressions, names}
use Rattle.definition.specs.Contents.{size, text, text_at}
use Rattle.definition.specs.Lists.{all, all_below}
use Rattle.definition.specs.References.{printable, name_sound, stmt_text, expr_text}

unfoldable pub texts_sound : Edition → List ℕ → Bool
texts_sound E f =
    all printable (text_at E f 0 (size f (text E)))
    && all_below (size f names) (name_sound E f) && all_below (size f statements) (stmt_text E f) && all_below (size f expressions) (expr_text E f)
