-- Where the script's last group ends: no group is reserved past it, and with the space that opening asks for nobody waits for
-- space in the log.
use Rattle.std.proofs.Common.{List, [], add-one, ap, arith, drop, length, refl, set, suc, true, zero, ℕ, ◌*◌, ◌+◌, ◌∙◌, ◌∷◌, ◌≡◌, ◌≤◌}
use Rattle.std.proofs.lemmas.Bool.{le-leb}
use Rattle.std.specs.Prelude.{nat_le}
use lib.ListN.{get_elem?}
use mathlib.Core.Option.{some}
use Rattle.model_base.specs.declared.limits.TheConstants.{BLOCK_SIZE}
use Rattle.model_core.proofs.Lsns.{lsn_le}
use Rattle.model_core.specs.{Actor, ceiling, entries, entries_from, Entry, has_log_space, Line, line_at, lsn, SharedWords, sum_of, Tiles, WriterState, IsSameActor, LogSide, Setup, start_checkpoint}
use Rattle.model_core.specs.declared.limits.TheConstants.{FREE_MARGIN}
use Rattle.model_logcore.proofs.Frame.{total_set}
use Rattle.model_logcore.specs.{LogGhost, sum_over_actors, LogHalf, lengths}
use Rattle.model_ends.proofs.Cost.{lines_steps, steps_of}
use Rattle.model_ends.specs.Bound.{bytes_of, last_lsn}
use Rattle.model_core.specs.States as actor

-- an actor keeps its lines
pub bytes_same : (a b : Actor) → IsSameActor a b → bytes_of b ≡ bytes_of a
bytes_same (actor.User u) b is = ap bytes_of is.1 ∙ ap lengths is.3
bytes_same _ b is = ap bytes_of is.1

steps_same : (a b : Actor) → IsSameActor a b → steps_of b ≡ steps_of a
steps_same (actor.User u) b is = ap steps_of is.1 ∙ ap lines_steps is.3
steps_same _ b is = ap steps_of is.1

pub all_bytes : (actors : List Actor) (seat : ℕ) (a b : Actor) → get_elem? actors seat ≡ some a → IsSameActor a b → sum_over_actors bytes_of (set actors seat b) ≡ sum_over_actors bytes_of actors
all_bytes actors seat a b at is = let t = total_set bytes_of actors seat a b at in let z = bytes_same a b is in omega arith

pub all_steps : (actors : List Actor) (seat : ℕ) (a b : Actor) → get_elem? actors seat ≡ some a → IsSameActor a b → sum_over_actors steps_of (set actors seat b) ≡ sum_over_actors steps_of actors
all_steps actors seat a b at is = let t = total_set steps_of actors seat a b at in let z = steps_same a b is in omega arith

-- what each of the actors has at most is, added up, at most what all have
pub sum_less : (f k : Actor → ℕ) (actors : List Actor) → ((i : ℕ) (a : Actor) → get_elem? actors i ≡ some a → f a ≤ k a) → sum_over_actors f actors ≤ sum_over_actors k actors
sum_less f k [] less = omega arith
sum_less f k (x ∷ xs) less = let here = less 0 x refl in let more = sum_less f k xs (λ i a at. less (suc i) a at) in omega arith

tiles_sum : (log : List Entry) (s n : ℕ) → Tiles s log n → s + sum_of (λ e. length e.bytes) log ≡ n
tiles_sum [] s n t = omega arith
tiles_sum (e ∷ es) s n t = let z = tiles_sum es (s + length e.bytes) n t.3 in omega arith

line_front : (lines : List Line) (k : ℕ) → length (line_at lines k).bytes + lengths (drop (suc k) lines) ≤ lengths (drop k lines)
line_front [] zero = omega arith
line_front [] (suc k) = omega arith
line_front (x ∷ xs) zero = omega arith
line_front (x ∷ xs) (suc k) = line_front xs k

entries_few : (user : ℕ) (lines : List Line) (k : ℕ) (starts : List ℕ) → sum_of (λ e. length e.bytes) (entries_from user lines k starts) ≤ lengths (drop k lines)
entries_few user lines k [] = omega arith
entries_few user lines k (s ∷ ss) = let z = entries_few user lines (k + 1) ss in let y = line_front lines k in let x = ap (λ (n : ℕ). lengths (drop n lines)) (add-one k) in omega arith

module _ (D : LogSide) (c : Setup) (m : SharedWords) (g : LogGhost) (p : D.Part) (actors : List Actor) (half : LogHalf D c m g p actors) where
  pub sn_within : lsn m.sn ≤ last_lsn c actors
  sn_within =
      let all = half.counted (λ e. length e.bytes) in
      let tiled = tiles_sum g.log c.base m.sn half.global.tiled.tiles in
      let few = sum_less (λ a. sum_of (λ e. length e.bytes) (entries a)) bytes_of actors (λ i a at. of_actor i a at) in
      lsn_le m.sn (c.base + sum_over_actors bytes_of actors) (omega arith)
    where
      of_actor : (i : ℕ) (a : Actor) → get_elem? actors i ≡ some a → sum_of (λ e. length e.bytes) (entries a) ≤ bytes_of a
      of_actor i (actor.User u) at = entries_few u.user u.lines 0 u.starts
      of_actor i (actor.Writer s) at = omega arith
      of_actor i (actor.Flusher s) at = omega arith
      of_actor i (actor.Closer s) at = omega arith
      of_actor i (actor.Cleaner s) at = omega arith
      of_actor i (actor.Checkpointer s) at = omega arith
      of_actor i (actor.Reader s) at = omega arith

-- the space that opening asks for: the log has room for the whole script, and the margin beyond that
abbrev pub HasRoomFor : Setup → ℕ → Type 0
HasRoomFor c last = last + FREE_MARGIN ≤ start_checkpoint c + BLOCK_SIZE * c.blocks

pub user_space : (c : Setup) (last n ckpt blocks : ℕ) → HasRoomFor c last → n ≤ last → ckpt ≡ start_checkpoint c → blocks ≡ c.blocks → nat_le (n + FREE_MARGIN) (ckpt + BLOCK_SIZE * blocks) ≡ true
user_space c last n ckpt blocks room low is same = le-leb (n + FREE_MARGIN) (ckpt + BLOCK_SIZE * blocks) (omega arith)

pub writer_space : (c : Setup) (last : ℕ) (s : WriterState) (ckpt : ℕ) → HasRoomFor c last → s.tail ≤ last → ckpt ≡ start_checkpoint c → s.blocks ≡ c.blocks → has_log_space s ckpt ≡ true
writer_space c last s ckpt room low is same = le-leb (ceiling s.tail) (ckpt + BLOCK_SIZE * s.blocks) (let up : ceiling s.tail ≤ s.tail + 511 = omega arith in omega arith)
