-- The registers' names and the preserved set (c.rs, `reg_name`, `CALLEE_SAVED`; ssa.rs, `NAMES64`, `NAMES32`).
use Rattle.std.specs.Prelude.{Bool, cond, ◌&&◌, List, [], ◌∷◌, ℕ, eqb, ltb, get_or}
use Rattle.definition.specs.Texts.{txt}
use Rattle.definition.specs.Lists.{among}

unfoldable pub NAMES64 : List (List ℕ)
NAMES64 =
    txt "rax" ∷ txt "rcx" ∷ txt "rdx" ∷ txt "rbx" ∷ txt "rsp" ∷ txt "rbp" ∷ txt "rsi" ∷ txt "rdi" ∷ txt "r8" ∷ txt "r9" ∷ txt "r10" ∷ txt "r11"
    ∷ txt "r12" ∷ txt "r13" ∷ txt "r14" ∷ txt "r15" ∷ []

unfoldable pub NAMES32 : List (List ℕ)
NAMES32 = txt "eax" ∷ txt "ecx" ∷ txt "edx" ∷ txt "ebx" ∷ txt "esp" ∷ txt "ebp" ∷ txt "esi" ∷ txt "edi" ∷ []

unfoldable pub reg_name : ℕ → ℕ → List ℕ
reg_name bits v = cond (eqb bits 32 && ltb v 8) (get_or NAMES32 v []) (get_or NAMES64 v [])

unfoldable pub callee_saved : ℕ → Bool
callee_saved v = among v (3 ∷ 5 ∷ 6 ∷ 7 ∷ 12 ∷ 13 ∷ 14 ∷ 15 ∷ [])
