use Rattle.ods_amend.proofs.label.home_place.Goals as goal

pub unreachable-requires : goal.unreachable-requires
unreachable-requires c =
    let at = c.requires.layout.home.1 in
    c.in-Err.ensures.err.1 c.requires.layout.home.0 at.place at.inside at.inside at.home
