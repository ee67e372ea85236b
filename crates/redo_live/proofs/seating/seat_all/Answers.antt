use Rattle.redo_live.proofs.seating.seat_all.Goals as goal

pub returns-clause-seated : goal.returns-clause-seated
returns-clause-seated g c plan are =
    let u = c.seat_users-users.ensures.seated plan are in
    (u.0, c.seat_workers.ensures.seated plan c.args.count u.1)
