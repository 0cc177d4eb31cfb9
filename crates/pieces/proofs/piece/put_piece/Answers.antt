-- With a place for the token, the text written to the rest and the number set behind it are the piece; a text or token without room makes it full.
use Rattle.pieces.proofs.Writing.{emit_not, ready_rest, placeable, leaf_emit}
use Rattle.pieces.proofs.piece.put_piece.Goals as goal

pub slice_bounds-write-count : goal.slice_bounds-write-count
slice_bounds-write-count c = let a = c.args in ready_rest a.tokens.now a.text.now a.out a.kind _ c.ready.ensures c.if-ready.true

pub slice_bounds-write-start : goal.slice_bounds-write-start
slice_bounds-write-start c = let a = c.args in ready_rest a.tokens.now a.text.now a.out a.kind _ c.ready.ensures c.if-ready.true

pub token-requires : goal.token-requires
token-requires c = let a = c.args in placeable a.tokens.now a.text.now a.out a.kind _ c.ready.ensures c.if-ready.true _ _ _ c.write-wrote.ensures

pub returns-then-ready : goal.returns-then-ready
returns-then-ready c = let a = c.args in leaf_emit a.tokens.now a.text.now a.out a.kind _ c.ready.ensures c.if-ready.true _ _ _ c.write-wrote.ensures _ _ c.token.ensures

pub returns : goal.returns
returns c = let a = c.args in emit_not a.tokens.now a.text.now a.out a.kind _ _ _ c.ready.ensures c.if-ready.false c.stop.ensures
