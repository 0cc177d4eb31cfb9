-- An item among the expressions has key 0; one behind them is a value, whose register is one of the sixteen.
use Rattle.places.proofs.Reading.{item_is, item_none, item_register}
use Rattle.places.proofs.key.item_key.Goals as goal

pub returns-then-j-expr_items : goal.returns-then-j-expr_items
returns-then-j-expr_items c = item_none _ _ _ _ c.expr_items.ensures c.if-j-expr_items.true

pub value_key-requires : goal.value_key-requires
value_key-requires c = item_register _ _ _ _ _ _ c.requires.f_value c.requires.i_bound c.requires.first_value.0 c.expr_items.ensures c.if-j-expr_items.false c.item_word.ensures

pub returns : goal.returns
returns c = item_is _ _ _ _ _ c.value_key.ensures _ _ _ c.requires.first_value.0 c.expr_items.ensures c.if-j-expr_items.false c.item_word.ensures c.item_word-2.ensures
