-- What a user tells of its groups is what the history has of it.
use Rattle.std.proofs.Common.{Bool, List, Some, [], ap, arith, cond, eq-eqb, eqb, false, length, refl, slice_get, slice_index, suc, sym, take, true, zero, ℕ, ◌+◌, ◌-◌, ◌<◌, ◌∙◌, ◌∷◌, ◌≡◌}
use Rattle.std.proofs.lemmas.Bool.{eqb-true}
use Rattle.std.proofs.lemmas.List.{length-map}
use Rattle.std.proofs.lemmas.Option.{same_Some}
use lib.ListN.{get_elem?}
use mathlib.Core.Option as maybe
use Rattle.model_core.specs.States as model
use Rattle.model_core.specs.{entries_from, entry, Line, line_at, PageChange, UserState}
use Rattle.model_logcore.proofs.UserGroups.{rank_same}
use Rattle.model_logcore.specs.{count_of, LogGhost, Tiled, UserFits}
use Rattle.model_report.specs.{entries_of_user}
use Rattle.model_report.specs.declared.entry.Entry.{Entry}
use Rattle.model_report.specs.declared.entry.Marks.{Marks}
use Rattle.model_running.proofs.Legality.{counts, get_below, IsRanked, ranked}
use Rattle.model_running.specs.{history_entry, history_of, word_marks}
use Rattle.redo_disk.specs.{Seen}
use Rattle.redo_drive.proofs.Told.{none_of_user}
use Rattle.redo_drive.specs.History.{listed, listed_from}
use Rattle.redo_drive.specs.Running.{RunOf, run_log_side, RunsWith}
use Rattle.redo_drive.specs.Reserved.{listed_group}
use Rattle.redo_drive.specs.declared.parts.Parts.{Parts}

-- lists of one length are one where they have the same in each place
same_each : (xs ys : List Entry) → length xs ≡ length ys
    → ((i : ℕ) (x : Entry) → slice_get xs i ≡ Some x → slice_get ys i ≡ Some x) → ◌≡◌ {A = List Entry} xs ys
same_each [] [] long each = refl
same_each [] (y ∷ ys) long each = absurd (omega arith)
same_each (x ∷ xs) [] long each = absurd (omega arith)
same_each (x ∷ xs) (y ∷ ys) long each =
    ap (λ (z : Entry). z ∷ xs) (sym (same_Some y x (each 0 x refl)))
    ∙ ap (λ (l : List Entry). y ∷ l) (same_each xs ys (omega arith) (λ i z at. each (suc i) z at))

-- what a user tells of one of its groups
pub listed_at : (marks : Marks) (u : UserState) (k : ℕ) (starts : List ℕ) (i : ℕ) → i < length starts
    → slice_get (listed_from marks u k starts) i ≡ Some (listed_group marks u (k + i) (slice_index starts i))
listed_at marks u k [] i l = absurd (omega arith)
listed_at marks u k (s ∷ ss) zero l =
    let e : k ≡ k + 0 = omega arith in ap (λ (n : ℕ). Some (listed_group marks u n s)) e
listed_at marks u k (s ∷ ss) (suc i) l =
    let e : k + 1 + i ≡ k + suc i = omega arith in
    listed_at marks u (k + 1) ss i (omega arith)
    ∙ ap (λ (n : ℕ). Some (listed_group marks u n (slice_index ss i))) e

entries_length : (user : ℕ) (lines : List Line) (k : ℕ) (starts : List ℕ)
    → length (entries_from user lines k starts) ≡ length starts
entries_length user lines k [] = refl
entries_length user lines k (s ∷ ss) = let r = entries_length user lines (k + 1) ss in omega arith

-- how far a group of this user and this number starts from there
abbrev gap_of : (user k start : ℕ) → model.Entry → ℕ
gap_of user k start e = cond (eqb e.user user) (cond (eqb e.k k) (e.start - start + (start - e.start)) 0) 0

no_gap : (user k start : ℕ) (e : model.Entry) → (e.user ≡ user → e.k ≡ k → e.start ≡ start) → gap_of user k start e ≡ 0
no_gap user k start e same = by (eqb e.user user) refl (eqb e.k k) refl
  where
    by : (a : Bool) → eqb e.user user ≡ a → (b : Bool) → eqb e.k k ≡ b
        → ◌≡◌ {A = ℕ} (cond a (cond b (e.start - start + (start - e.start)) 0) 0) 0
    by false p b q = refl
    by true p false q = refl
    by true p true q = let s = same (eqb-true e.user user p) (eqb-true e.k k q) in omega arith

same_start : (user k start s : ℕ) (line : Line) → gap_of user k start (entry user k s line) ≡ 0 → s ≡ start
same_start user k start s line none =
    let first : ◌≡◌ {A = ℕ} (cond (eqb user user) (cond (eqb k k) (s - start + (start - s)) 0) 0)
    (cond (eqb k k) (s - start + (start - s)) 0) =
    ap (λ (b : Bool). let n : ℕ = cond b (cond (eqb k k) (s - start + (start - s)) 0) 0 in n) (eq-eqb user user refl) in
    let second : ◌≡◌ {A = ℕ} (cond (eqb k k) (s - start + (start - s)) 0) (s - start + (start - s)) =
    ap (λ (b : Bool). let n : ℕ = cond b (s - start + (start - s)) 0 in n) (eq-eqb k k refl) in
    omega arith

module _ {L D : Type 0} {archive : Bool} (log_seen : L → Seen) (data_seen : D → Seen) (run : RunOf L D)
    (parts : Parts L D) (actors : List model.Actor) (runs : RunsWith log_seen data_seen run archive parts actors)
    (seat : ℕ) (u : UserState) (at : get_elem? actors seat ≡ maybe.some (model.User u)) where
  abbrev g : LogGhost
  g = runs.running.log_ghost

  abbrev marks : Marks
  marks = word_marks runs.running.shared

  fits : UserFits (run_log_side log_seen data_seen run) run.setup runs.running.shared g parts.log seat u
  fits = runs.running.both.logged.each seat (model.User u) at

  tiled : Tiled run.setup runs.running.shared.sn g.log g.place
  tiled = runs.running.both.logged.global.tiled

  abbrev own : List Entry
  own = entries_of_user u.user (history_of g.answered marks g.log)

  many : length own ≡ length u.starts
  many = counts g.answered marks u.user g.log ∙ fits.counted

  module _ (i : ℕ) (x : Entry) (found : slice_get own i ≡ Some x) where
    r : IsRanked g.answered marks u.user i g.log x
    r = ranked g.answered marks u.user i g.log x found

    below : i < length u.starts
    below = let l = get_below own i x found in let m = many in omega arith

    number : r.group.k ≡ i
    number = tiled.ranks r.place r.group r.is ∙ ap (λ (v : ℕ). count_of v (take r.place g.log)) r.own ∙ r.before

    start : r.group.start ≡ slice_index u.starts i
    start = sym (same_start u.user i r.group.start (slice_index u.starts i) (line_at u.lines i)
        (none_of_user log_seen data_seen run parts actors runs (gap_of u.user i r.group.start)
        (λ j e is. no_gap u.user i r.group.start e (λ user k.
        ap (λ (z : model.Entry). z.start) (rank_same run.setup runs.running.shared.sn g.log g.place j r.place e r.group
        tiled is r.is (user ∙ sym r.own) (k ∙ sym number))))
        seat u at i below))

    its_line : line_at (run.setup.script r.group.user) r.group.k ≡ line_at u.lines i
    its_line = ap (λ (v : ℕ). line_at (run.setup.script v) r.group.k) r.own
        ∙ ap (λ (ls : List Line). line_at ls r.group.k) (sym fits.lines) ∙ ap (line_at u.lines) number

    bytes : ◌≡◌ {A = List ℕ} r.group.bytes (line_at u.lines i).bytes
    bytes = (tiled.lines r.place r.group r.is).1 ∙ ap (λ (l : Line). l.bytes) its_line

    changes : ◌≡◌ {A = List PageChange} r.group.changes (line_at u.lines i).changes
    changes = (tiled.lines r.place r.group r.is).2 ∙ ap (λ (l : Line). l.changes) its_line

    -- it is the group that the user reserved
    group_is : ◌≡◌ {A = model.Entry} r.group (entry u.user i (slice_index u.starts i) (line_at u.lines i))
    group_is = λ t. record { user = r.own t; k = number t; start = start t; bytes = bytes t; changes = changes t }

    told : slice_get (listed_from marks u 0 u.starts) i ≡ Some x
    told = listed_at marks u 0 u.starts i below
        ∙ ap (λ (n : ℕ). Some (listed_group marks u n (slice_index u.starts i))) (let e : 0 + i ≡ i = omega arith in e)
        ∙ ap (λ (n : ℕ). Some (history_entry (λ v. n) marks
        (entry u.user i (slice_index u.starts i) (line_at u.lines i)))) (sym fits.answers)
        ∙ ap (λ (e : model.Entry). Some (history_entry g.answered marks e)) (sym group_is)
        ∙ ap (λ (z : Entry). Some z) r.entry_is

  pub user_entries : ◌≡◌ {A = List Entry} own (listed marks (model.User u))
  user_entries = same_each own (listed_from marks u 0 u.starts)
      (many ∙ sym (length-map (entries_from u.user u.lines 0 u.starts) (history_entry (λ user. u.k) marks)
      ∙ entries_length u.user u.lines 0 u.starts))
      told
