-- A user has its commit answered.
use Rattle.std.proofs.Common.{Bool, List, ap, arith, cond, eqb, eqb-true, false, length, refl, subst, sym, true, ℕ, ◌+◌, ◌<◌, ◌∙◌, ◌≡◌, ◌≤◌}
use Rattle.std.proofs.lemmas.Bool.{eqb-false}
use lib.ListN.{get_elem?}
use mathlib.Core.Option.{some}
use native.Mathlib.Decide.{ℕ_discrete}
use Rattle.model_core.proofs.Groups.{changed, changed_else, changed_here}
use Rattle.model_core.specs.{Actor, answered, end_of, Entry, entry, group_end, Line, line, line_at, LoadedMarks, lsn, mode, SharedWords, UserState, LogSide, Setup}
use Rattle.model_logcore.proofs.UserGroups.{rank_same}
use Rattle.model_logcore.specs.LogFacts.{LogGhost, LogFacts, count_of}
use Rattle.model_logcore.specs.LogFits.{AreBelow, UserAt, UserFits, LogHalf}
use Rattle.model_logcore.specs.LogLaws.{LogLaws}
use Rattle.model_core.specs.declared.steps.UserStep.TheVariants as user_step
use Rattle.model_core.specs.States as actor

module _ (D : LogSide) (L : LogLaws D) (c : Setup) (m : SharedWords) (g : LogGhost) (p : D.Part) (actors : List Actor) (seat : ℕ) (u : UserState) (before : LogHalf D c m g p actors) (at : get_elem? actors seat ≡ some (actor.User u)) where
  mine : UserFits D c m g p seat u
  mine = before.each seat (actor.User u) at

  -- one more commit of the user is answered, as its mode asks
  pub answer_global : (m' : SharedWords) (h : LogGhost) (i : ℕ) → get_elem? h.log i ≡ some (entry u.user u.k u.start (line u)) → h.answered u.user ≡ u.k → (mode u ≡ 1 → lsn (group_end u) ≤ m'.flushed) → (mode u ≡ 2 → lsn (group_end u) ≤ m'.write)
      → ((x : ℕ) → u.start ≤ x → x < group_end u → h.state x ≡ 2) → LogFacts D c m' h p → LogFacts D c m' (record h { answered = changed h.answered u.user (u.k + 1) }) p
  answer_global m' h i is before_k flush wrote whole G = record {
    tiled = G.tiled;
    order = G.order;
    ring_cells = G.ring_cells;
    first_offsets = G.first_offsets;
    written_links = G.written_links;
    commits = record { flush = by 1 m'.flushed flush (λ j e at k md. G.commits.flush j e at k md); wrote = by 2 m'.write wrote (λ j e at k md. G.commits.wrote j e at k md); linked = linked_by; last = λ v. more v };
    part = G.part;
  }
    where
      more : (v : ℕ) → count_of v h.log ≤ changed h.answered u.user (u.k + 1) v + 1
      more v = let l = G.commits.last v in elim (ℕ_discrete v u.user) [
        | yes z ↦ (let a = changed_here h.answered u.user (u.k + 1) v z in let b : h.answered v ≡ u.k = ap h.answered z ∙ before_k in omega arith)
        | no n ↦ (let a = changed_else h.answered u.user (u.k + 1) v n in omega arith)
      ]

      linked_by : (j : ℕ) (e : Entry) → get_elem? h.log j ≡ some e → e.k < changed h.answered u.user (u.k + 1) e.user → (x : ℕ) → e.start ≤ x → x < end_of e → h.state x ≡ 2
      linked_by j e at k = elim (ℕ_discrete e.user u.user) [
        | yes d ↦ (let k' : e.k < u.k + 1 = subst (λ (z : ℕ). e.k < z) (changed_here h.answered u.user (u.k + 1) e.user d) k in
            elim (ℕ_discrete e.k u.k) [
              | yes same ↦ subst (λ (z : Entry). (x : ℕ) → z.start ≤ x → x < end_of z → h.state x ≡ 2) (rank_same c m'.sn h.log h.place i j (entry u.user u.k u.start (line u)) e G.tiled is at (sym d) (sym same)) whole
              | no other ↦ G.commits.linked j e at (let z : h.answered e.user ≡ u.k = ap h.answered d ∙ before_k in omega arith)
            ])
        | no n ↦ G.commits.linked j e at (subst (λ (z : ℕ). e.k < z) (changed_else h.answered u.user (u.k + 1) e.user n) k)
      ]

      by : (kind mark : ℕ) → (mode u ≡ kind → lsn (group_end u) ≤ mark) → ((j : ℕ) (e : Entry) → get_elem? h.log j ≡ some e → e.k < h.answered e.user → (line_at (c.script e.user) e.k).mode ≡ kind → lsn (end_of e) ≤ mark)
          → (j : ℕ) (e : Entry) → get_elem? h.log j ≡ some e → e.k < changed h.answered u.user (u.k + 1) e.user → (line_at (c.script e.user) e.k).mode ≡ kind → lsn (end_of e) ≤ mark
      by kind mark own old j e at k md = elim (ℕ_discrete e.user u.user) [
        | yes d ↦ (let k' : e.k < u.k + 1 = subst (λ (z : ℕ). e.k < z) (changed_here h.answered u.user (u.k + 1) e.user d) k in
            elim (ℕ_discrete e.k u.k) [
              | yes same ↦ (let mine_is : ◌≡◌ {A = Entry} (entry u.user u.k u.start (line u)) e = rank_same c m'.sn h.log h.place i j (entry u.user u.k u.start (line u)) e G.tiled is at (sym d) (sym same) in
                  subst (λ (z : Entry). (line_at (c.script z.user) z.k).mode ≡ kind → lsn (end_of z) ≤ mark) mine_is (λ md. own (ap (λ (ls : List Line). (line_at ls u.k).mode) mine.lines ∙ md)) md)
              | no other ↦ old j e at (let z : h.answered e.user ≡ u.k = ap h.answered d ∙ before_k in omega arith) md
            ])
        | no n ↦ old j e at (subst (λ (z : ℕ). e.k < z) (changed_else h.answered u.user (u.k + 1) e.user n) k) md
      ]

  -- the user goes on to its next line, or has ended
  pub answered_fits : (marks : LoadedMarks) (m' : SharedWords) (h : LogGhost) → h.seat_of u.user ≡ g.seat_of u.user → count_of u.user h.log ≡ count_of u.user g.log → h.answered u.user ≡ u.k + 1 → AreBelow marks m'.ckpt m'.write m'.wtail m'.flushed → length u.starts ≡ u.k + 1 → u.k < length u.lines
      → UserFits D c m' h p seat (answered (record u { loaded = marks }))
  answered_fits marks m' h a b d ck long less = record {
    own_seat = a ∙ mine.own_seat;
    blocks = mine.blocks;
    lines = mine.lines;
    sound = mine.sound;
    are_bytes = mine.are_bytes;
    counted = b ∙ mine.counted;
    answers = d;
    loaded = ck;
    step = ends (eqb (u.k + 1) (length u.lines)) refl;
  }
    where
      ends : (b : Bool) → eqb (u.k + 1) (length u.lines) ≡ b → UserAt D c m' h p seat (record u { loaded = marks; k = u.k + 1; checks = cond b false true; step = cond b user_step.Done user_step.LoadCheckpoint }) (cond b user_step.Done user_step.LoadCheckpoint)
      ends true e = (long, eqb-true (u.k + 1) (length u.lines) e, refl)
      ends false e = (long, (let n = eqb-false (u.k + 1) (length u.lines) e in omega arith))
