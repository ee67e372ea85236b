use Rattle.std.proofs.Common.{None, Some}
use Rattle.redo_disk.specs.declared.error.DevError.TheVariants.{Failed, NoMemory}
use Rattle.redo_rule.proofs.Appended.{its}
use Rattle.redo_rule.proofs.Stepping.{append_ok}
use Rattle.redo_rule.proofs.appending.append.Goals as goal

pub load-requires : goal.load-requires
load-requires g c = append_ok c.requires.seat.mine g.L.Sectors.seen g.L.Sectors.gives g.D.Sectors.seen
    g.D.Sectors.gives c.args.table.now.key None c.requires.asks

pub load-requires-in-Some-Failed : goal.load-requires-in-Some-Failed
load-requires-in-Some-Failed g c = append_ok c.requires.seat.mine g.L.Sectors.seen g.L.Sectors.gives g.D.Sectors.seen
    g.D.Sectors.gives c.args.table.now.key (Some Failed) c.requires.asks

pub load-requires-in-Some-NoMemory : goal.load-requires-in-Some-NoMemory
load-requires-in-Some-NoMemory g c = append_ok c.requires.seat.mine g.L.Sectors.seen g.L.Sectors.gives g.D.Sectors.seen
    g.D.Sectors.gives c.args.table.now.key (Some NoMemory) c.requires.asks

pub returns-in-None-clause-seat : goal.returns-in-None-clause-seat
returns-in-None-clause-seat g c = (its c.args.actor.now c.requires.seat g.L.Sectors.seen g.D.Sectors.seen
    g.R.Receiver.stands_for
    c.load.new.seat c.took.new.self c.took.result c.requires.asks None c.load.result
    c.load.ensures c.took.ensures).done.seat

pub returns-in-None-clause-same : goal.returns-in-None-clause-same
returns-in-None-clause-same g c = (its c.args.actor.now c.requires.seat g.L.Sectors.seen g.D.Sectors.seen
    g.R.Receiver.stands_for
    c.load.new.seat c.took.new.self c.took.result c.requires.asks None c.load.result
    c.load.ensures c.took.ensures).done.same

pub returns-in-None-clause-played : goal.returns-in-None-clause-played
returns-in-None-clause-played g c = (its c.args.actor.now c.requires.seat g.L.Sectors.seen g.D.Sectors.seen
    g.R.Receiver.stands_for
    c.load.new.seat c.took.new.self c.took.result c.requires.asks None c.load.result
    c.load.ensures c.took.ensures).done.played

pub returns-in-None-clause-appends : goal.returns-in-None-clause-appends
returns-in-None-clause-appends g c = (its c.args.actor.now c.requires.seat g.L.Sectors.seen g.D.Sectors.seen
    g.R.Receiver.stands_for
    c.load.new.seat c.took.new.self c.took.result c.requires.asks None c.load.result
    c.load.ensures c.took.ensures).blocks

pub returns-in-Some-Failed-clause-seat : goal.returns-in-Some-Failed-clause-seat
returns-in-Some-Failed-clause-seat g c = (its c.args.actor.now c.requires.seat g.L.Sectors.seen g.D.Sectors.seen
    g.R.Receiver.stands_for
    c.load-in-Some-Failed.new.seat c.took-in-Some-Failed.new.self c.took-in-Some-Failed.result c.requires.asks
    (Some Failed) c.load-in-Some-Failed.result
    c.load-in-Some-Failed.ensures c.took-in-Some-Failed.ensures).done.seat

pub returns-in-Some-Failed-clause-same : goal.returns-in-Some-Failed-clause-same
returns-in-Some-Failed-clause-same g c = (its c.args.actor.now c.requires.seat g.L.Sectors.seen g.D.Sectors.seen
    g.R.Receiver.stands_for
    c.load-in-Some-Failed.new.seat c.took-in-Some-Failed.new.self c.took-in-Some-Failed.result c.requires.asks
    (Some Failed) c.load-in-Some-Failed.result
    c.load-in-Some-Failed.ensures c.took-in-Some-Failed.ensures).done.same

pub returns-in-Some-Failed-clause-played : goal.returns-in-Some-Failed-clause-played
returns-in-Some-Failed-clause-played g c = (its c.args.actor.now c.requires.seat g.L.Sectors.seen g.D.Sectors.seen
    g.R.Receiver.stands_for
    c.load-in-Some-Failed.new.seat c.took-in-Some-Failed.new.self c.took-in-Some-Failed.result c.requires.asks
    (Some Failed) c.load-in-Some-Failed.result
    c.load-in-Some-Failed.ensures c.took-in-Some-Failed.ensures).done.played

pub returns-in-Some-Failed-clause-appends : goal.returns-in-Some-Failed-clause-appends
returns-in-Some-Failed-clause-appends g c = (its c.args.actor.now c.requires.seat g.L.Sectors.seen g.D.Sectors.seen
    g.R.Receiver.stands_for
    c.load-in-Some-Failed.new.seat c.took-in-Some-Failed.new.self c.took-in-Some-Failed.result c.requires.asks
    (Some Failed) c.load-in-Some-Failed.result
    c.load-in-Some-Failed.ensures c.took-in-Some-Failed.ensures).blocks

pub returns-in-Some-NoMemory-clause-seat : goal.returns-in-Some-NoMemory-clause-seat
returns-in-Some-NoMemory-clause-seat g c = (its c.args.actor.now c.requires.seat g.L.Sectors.seen g.D.Sectors.seen
    g.R.Receiver.stands_for
    c.load-in-Some-NoMemory.new.seat c.took-in-Some-NoMemory.new.self c.took-in-Some-NoMemory.result c.requires.asks
    (Some NoMemory) c.load-in-Some-NoMemory.result
    c.load-in-Some-NoMemory.ensures c.took-in-Some-NoMemory.ensures).done.seat

pub returns-in-Some-NoMemory-clause-same : goal.returns-in-Some-NoMemory-clause-same
returns-in-Some-NoMemory-clause-same g c = (its c.args.actor.now c.requires.seat g.L.Sectors.seen g.D.Sectors.seen
    g.R.Receiver.stands_for
    c.load-in-Some-NoMemory.new.seat c.took-in-Some-NoMemory.new.self c.took-in-Some-NoMemory.result c.requires.asks
    (Some NoMemory) c.load-in-Some-NoMemory.result
    c.load-in-Some-NoMemory.ensures c.took-in-Some-NoMemory.ensures).done.same

pub returns-in-Some-NoMemory-clause-played : goal.returns-in-Some-NoMemory-clause-played
returns-in-Some-NoMemory-clause-played g c = (its c.args.actor.now c.requires.seat g.L.Sectors.seen g.D.Sectors.seen
    g.R.Receiver.stands_for
    c.load-in-Some-NoMemory.new.seat c.took-in-Some-NoMemory.new.self c.took-in-Some-NoMemory.result c.requires.asks
    (Some NoMemory) c.load-in-Some-NoMemory.result
    c.load-in-Some-NoMemory.ensures c.took-in-Some-NoMemory.ensures).done.played

pub returns-in-Some-NoMemory-clause-appends : goal.returns-in-Some-NoMemory-clause-appends
returns-in-Some-NoMemory-clause-appends g c = (its c.args.actor.now c.requires.seat g.L.Sectors.seen
    g.D.Sectors.seen g.R.Receiver.stands_for
    c.load-in-Some-NoMemory.new.seat c.took-in-Some-NoMemory.new.self c.took-in-Some-NoMemory.result c.requires.asks
    (Some NoMemory) c.load-in-Some-NoMemory.result
    c.load-in-Some-NoMemory.ensures c.took-in-Some-NoMemory.ensures).blocks
