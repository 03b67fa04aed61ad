use Rattle.transput.proofs.transput_view_number.Goals as goal

pub returns : goal.returns
returns c = c.view_place-place.ensures.number
