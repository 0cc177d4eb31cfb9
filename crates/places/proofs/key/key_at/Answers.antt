-- By the section: the four in which each record is one place have each their key, and any other falls through every test to 0.
use Rattle.places.specs.Laid.{key_at}
use Rattle.places.proofs.Reading.{section_size, of_section, of_none}
use Rattle.places.proofs.key.key_at.Goals as goal

pub arg_key-requires : goal.arg_key-requires
arg_key-requires c = record { f_value = c.requires.f_value; i_bound = section_size _ _ _ _ c.if-s-eq-ARGS.true c.requires.i_bound }

pub returns-then-s-eq-ARGS : goal.returns-then-s-eq-ARGS
unfolding key_at
returns-then-s-eq-ARGS c = of_section _ _ _ _ 0 c.if-s-eq-ARGS.true c.arg_key.ensures

pub phi_key-requires : goal.phi_key-requires
phi_key-requires c = record { f_value = c.requires.f_value; i_bound = section_size _ _ _ _ c.if-s-eq-PHIS.true c.requires.i_bound }

pub returns-then-s-eq-PHIS : goal.returns-then-s-eq-PHIS
unfolding key_at
returns-then-s-eq-PHIS c = of_section _ _ _ _ 2 c.if-s-eq-PHIS.true c.phi_key.ensures

pub stmt_key-requires : goal.stmt_key-requires
stmt_key-requires c = record { f_value = c.requires.f_value; i_bound = section_size _ _ _ _ c.if-s-eq-STATEMENTS.true c.requires.i_bound }

pub returns-then-s-eq-STATEMENTS : goal.returns-then-s-eq-STATEMENTS
unfolding key_at
returns-then-s-eq-STATEMENTS c = of_section _ _ _ _ 4 c.if-s-eq-STATEMENTS.true c.stmt_key.ensures

pub expr_key-requires : goal.expr_key-requires
expr_key-requires c = record { f_value = c.requires.f_value; i_bound = section_size _ _ _ _ c.if-s-eq-EXPRESSIONS.true c.requires.i_bound }

pub returns-then-s-eq-EXPRESSIONS : goal.returns-then-s-eq-EXPRESSIONS
unfolding key_at
returns-then-s-eq-EXPRESSIONS c = of_section _ _ _ _ 6 c.if-s-eq-EXPRESSIONS.true c.expr_key.ensures

pub returns : goal.returns
returns c = of_none _ _ _ c.if-s-eq-ARGS.false c.if-s-eq-PHIS.false c.if-s-eq-STATEMENTS.false c.if-s-eq-EXPRESSIONS.false
