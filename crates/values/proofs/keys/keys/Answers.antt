-- Each list is laid where those before it end, as the owners' counts come out; all six laid into zeros are the table of keys.
use Rattle.values.proofs.Laying.{keys_all, places_near, inputs_few}
use Rattle.records.proofs.Items.{items_few}
use Rattle.values.proofs.keys.keys.Goals as goal

pub lay_section-requires-2 : goal.lay_section-requires-2
lay_section-requires-2 c = record { f_value = c.requires.f_value.1; from_bound = (places_near _ c.type_inv.f _ c.places_of-p.ensures).0 }

pub lay_inputs-requires : goal.lay_inputs-requires
lay_inputs-requires c = record { f_value = c.requires.f_value.1; phis_bound = inputs_few _ c.type_inv.f c.requires.f_value.0; from_bound = (places_near _ c.type_inv.f _ c.places_of-p.ensures).1 }

pub lay_section-requires-3 : goal.lay_section-requires-3
lay_section-requires-3 c = record { f_value = c.requires.f_value.1; from_bound = (places_near _ c.type_inv.f _ c.places_of-p.ensures).2 }

pub lay_items-requires : goal.lay_items-requires
lay_items-requires c = record { f_value = c.requires.f_value.1; statements_bound = items_few _ c.type_inv.f c.requires.f_value.0; from_bound = (places_near _ c.type_inv.f _ c.places_of-p.ensures).3 }

pub lay_section-requires-4 : goal.lay_section-requires-4
lay_section-requires-4 c = record { f_value = c.requires.f_value.1; from_bound = (places_near _ c.type_inv.f _ c.places_of-p.ensures).4 }

pub returns : goal.returns
returns c = keys_all _ c.requires.f_value.0 _ c.places_of-p.ensures _ _ _ _ _ _ _ c.requires.keys_value c.requires.f_in_bounds c.lay_section.ensures c.lay_section-2.ensures c.lay_inputs.ensures c.lay_section-3.ensures c.lay_items.ensures c.lay_section-4.ensures
