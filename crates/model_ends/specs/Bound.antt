-- Within how many turns a run with the log alone ends: a number that its script and sizes give.
use Rattle.std.specs.Prelude.{List, length, ℕ, ◌*◌, ◌+◌}
use Rattle.model_core.specs.{Actor, lsn, Setup}
use Rattle.model_logcore.specs.{sum_over_actors, lengths}
use Rattle.model_core.specs.States as actor

-- the lines of an actor, and the bytes of their groups
abbrev pub lines_of : Actor → ℕ
lines_of (actor.User u) = length u.lines
lines_of _ = 0

abbrev pub bytes_of : Actor → ℕ
bytes_of (actor.User u) = lengths u.lines
bytes_of _ = 0

-- the lsn at which the script's last group ends
abbrev pub last_lsn : Setup → List Actor → ℕ
last_lsn c actors = lsn (c.base + sum_over_actors bytes_of actors)

-- Something gets less in each 21 rounds, which have a turn of each actor: the steps that are left of a line, at most twelve and
-- one for each byte, what the writer and the flusher have left to do for each lsn, and the links that stand.
abbrev pub most_turns : List Actor → ℕ
most_turns actors = 21 * length actors * (12 * sum_over_actors lines_of actors + 28 * sum_over_actors bytes_of actors + 66_000)
