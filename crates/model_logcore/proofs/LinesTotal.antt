-- Where all groups will end at most is the run's start and all bytes of all lines.
use Rattle.std.proofs.Common.{List, [], arith, drop, length, refl, suc, zero, ap, ℕ, ◌+◌, ◌∷◌, ◌≡◌, ◌≤◌}
use Rattle.std.proofs.lemmas.List.{get_or_past}
use native.Mathlib.Decide.{dec_le}
use Rattle.model_core.specs.{Actor, entries, entries_from, Entry, Line, line_at, SharedWords, sum_of, Tiles, LogSide, Setup}
use Rattle.model_logcore.proofs.UserGroups.{lengths_step}
use Rattle.model_logcore.specs.LogFacts.{LogGhost, sum_over_actors}
use Rattle.model_logcore.specs.LogFits.{left_to_reserve, lengths, LogHalf}
use Rattle.model_core.specs.States as actor

-- all bytes of an actor's lines
abbrev pub all_bytes : Actor → ℕ
all_bytes (actor.User u) = lengths u.lines
all_bytes _ = 0

-- all bytes of groups
abbrev bytes_of : List Entry → ℕ
bytes_of log = sum_of (λ e. length e.bytes) log

tiles_size : (s : ℕ) (log : List Entry) (n : ℕ) → Tiles s log n → n ≡ s + bytes_of log
tiles_size s [] n t = omega arith
tiles_size s (e ∷ es) n t = let r = tiles_size (s + length e.bytes) es n t.3 in omega arith

none_past : (ls : List Line) (n : ℕ) → length ls ≤ n → lengths (drop n ls) ≡ 0
none_past [] zero h = refl
none_past [] (suc n) h = refl
none_past (l ∷ ls) zero h = absurd (omega arith)
none_past (l ∷ ls) (suc n) h = none_past ls n (omega arith)

step : (ls : List Line) (k : ℕ)
    → lengths (drop k ls) ≡ length (line_at ls k).bytes + lengths (drop (k + 1) ls)
step ls k = elim (dec_le (length ls) k) [
  | yes past ↦ (let a = none_past ls k past in let b = none_past ls (k + 1) (omega arith) in
      let none : Line = record { mode = 0; bytes = []; changes = [] } in
      let z : length (line_at ls k).bytes ≡ 0 = ap (λ (l : Line). length l.bytes) (get_or_past ls k none past) in
      omega arith)
  | no there ↦ lengths_step ls k (omega arith)
]

taken_left : (user : ℕ) (ls : List Line) (k : ℕ) (starts : List ℕ)
    → bytes_of (entries_from user ls k starts) + lengths (drop (k + length starts) ls) ≡ lengths (drop k ls)
taken_left user ls k [] =
    let e : k + 0 ≡ k = omega arith in
    let z : lengths (drop (k + 0) ls) ≡ lengths (drop k ls) = ap (λ (n : ℕ). lengths (drop n ls)) e in omega arith
taken_left user ls k (s ∷ ss) =
    let r = taken_left user ls (k + 1) ss in let t = step ls k in
    let n : k + suc (length ss) ≡ k + 1 + length ss = omega arith in
    let e : lengths (drop (k + suc (length ss)) ls) ≡ lengths (drop (k + 1 + length ss) ls) =
    ap (λ (n : ℕ). lengths (drop n ls)) n in
    omega arith

each_total : (a : Actor) → bytes_of (entries a) + left_to_reserve a ≡ all_bytes a
each_total (actor.User u) =
    let e : 0 + length u.starts ≡ length u.starts = omega arith in
    let z : lengths (drop (0 + length u.starts) u.lines) ≡ lengths (drop (length u.starts) u.lines) =
    ap (λ (n : ℕ). lengths (drop n u.lines)) e in
    let t : bytes_of (entries_from u.user u.lines 0 u.starts) + lengths (drop (0 + length u.starts) u.lines)
    ≡ lengths u.lines = taken_left u.user u.lines 0 u.starts in
    omega arith
each_total (actor.Writer s) = omega arith
each_total (actor.Flusher s) = omega arith
each_total (actor.Closer s) = omega arith
each_total (actor.Cleaner s) = omega arith
each_total (actor.Checkpointer s) = omega arith
each_total (actor.Reader r) = omega arith

sums : (actors : List Actor) → sum_over_actors (λ a. bytes_of (entries a)) actors
    + sum_over_actors left_to_reserve actors ≡ sum_over_actors all_bytes actors
sums [] = omega arith
sums (a ∷ rest) = let r = sums rest in let t = each_total a in omega arith

pub lines_total : (D : LogSide) (c : Setup) (m : SharedWords) (g : LogGhost) (p : D.Part) (actors : List Actor)
    → LogHalf D c m g p actors
    → m.sn + sum_over_actors left_to_reserve actors ≡ c.base + sum_over_actors all_bytes actors
lines_total D c m g p actors k =
    let t = tiles_size c.base g.log m.sn k.global.tiled.tiles in
    let n = k.counted (λ e. length e.bytes) in
    let s = sums actors in omega arith
