-- What a closed table leaves, in terms of its players: the run that every drive owes.
use Rattle.std.proofs.Common.{Bool, List, None, Option, Some, [], ap, arith, inl, inr, is_some, length, map, refl, subst, suc, sym, zero, ℕ, ⊎_elim, ◌<◌, ◌∙◌, ◌∷◌, ◌≡◌, ◌⊎◌}
use Rattle.std.proofs.lemmas.List.{length-map}
use Rattle.std.specs.List.{AllByRecursion, AllZip}
use lib.ListN.{get_elem?}
use mathlib.Core.Option as maybe
use Rattle.atomic_table.specs.declared.shared.Seat.{Seat}
use Rattle.model_core.specs.{Given}
use Rattle.model_own.specs.{LogWork}
use Rattle.model_report.specs.declared.entry.Marks.{Marks}
use Rattle.redo_disk.specs.{Call, Seen}
use Rattle.redo_drive.proofs.Viewed.{views_at}
use Rattle.redo_drive.specs.{ListsInOrder, view_of, views_of, run_log_side, follower_of, HasGot, IsSameFollower}
use Rattle.redo_drive.specs.Leaving.{LeavesWith}
use Rattle.redo_drive.specs.declared.actor.Actor.{Actor}
use Rattle.redo_drive.specs.declared.actor.Actor.TheVariants as actor
use Rattle.redo_drive.specs.declared.closed.Closed.{Closed}
use Rattle.redo_follow.specs.Following.{Following}
use Rattle.redo_ownrule.proofs.Placed.{alone, length_crew}
use Rattle.redo_ownrule.proofs.Standing.{crew_there}
use Rattle.redo_ownrule.specs.Leaving.{LeavesHeard}
use Rattle.redo_ownrule.specs.Players.{actor_of, crew, IsSamePlayer, place, workers, workers_of}
use Rattle.redo_ownrule.specs.declared.player.Player.{Player}
use Rattle.redo_ownrule.specs.declared.player.Player.TheVariants as player
use Rattle.redo_rule.proofs.Finishing.{its_history, its_loss}
use Rattle.redo_rule.proofs.Told.{fixed_run}
use Rattle.redo_rule.proofs.Gathered.{heard_at, there}
use Rattle.redo_rule.specs.Closing.{LeavesParts, TellsLoss}
use Rattle.redo_rule.specs.Handing.{IsOfRun}
use Rattle.redo_rule.specs.Mine.{heard_of}
use Rattle.redo_rule.specs.Sharing.{HaveHeard, heard_by}
use Rattle.redo_rule.specs.declared.closing.Left.{Left}
use Rattle.redo_rule.specs.declared.law.About.{About}
use Rattle.redo_rule.specs.declared.law.Heard.{Heard}
use Rattle.redo_rule.specs.declared.law.Slot.{Slot}
use Rattle.redo_rule.specs.declared.law.View.{View}

pub many_workers : (R : Type 0) (k : Option LogWork) → length (workers_of {R = R} k) ≡ workers (is_some k)
many_workers R None = refl
many_workers R (Some k) = refl

-- these are actors of one place, of players then and now
abbrev InBoth : {R : Type 0} → Option LogWork → List (Player R) → List (Player R) → ℕ → Actor R → Actor R → Type 0
InBoth k ss ps n a b = (i : ℕ) × (get_elem? (map actor_of ss) i ≡ maybe.some a)
    × (get_elem? (map actor_of ps) i ≡ maybe.some b) × (n ≡ place (is_some k) ps i)

module _ {R : Type 0} where
  -- or the writer or the flusher, then and now
  in_both : (j k : Option LogWork) → is_some j ≡ is_some k → (ss ps : List (Player R)) → AllZip IsSamePlayer ss ps
      → (n : ℕ) (a b : Actor R) → get_elem? (crew j ss) n ≡ maybe.some a → get_elem? (crew k ps) n ≡ maybe.some b
      → InBoth k ss ps n a b ⊎ ((follower_of a ≡ None) × (follower_of b ≡ None))
  in_both None None works ss ps same n a b at bt =
      let now : (qs : List (Player R)) → get_elem? (map actor_of qs) n ≡ get_elem? (crew None qs) n =
      λ qs. ap (λ (l : List (Actor R)). get_elem? l n) (alone qs) in
      inl (n, now ss ∙ at, now ps ∙ bt, refl)
  in_both None (Some k) works ss ps same n a b at bt = absurd (cc)
  in_both (Some j) None works ss ps same n a b at bt = absurd (cc)
  in_both (Some j) (Some k) works [] [] same zero a b at bt = inr (
    ap follower_of (sym (maybe.some-injective (actor.Writer j.writer) a at)),
    ap follower_of (sym (maybe.some-injective (actor.Writer k.writer) b bt)),
  )
  in_both (Some j) (Some k) works [] [] same (suc zero) a b at bt = inr (
    ap follower_of (sym (maybe.some-injective (actor.Flusher j.flusher) a at)),
    ap follower_of (sym (maybe.some-injective (actor.Flusher k.flusher) b bt)),
  )
  in_both (Some j) (Some k) works [] [] same (suc (suc n)) a b at bt = absurd (maybe.some-ne-none a (sym at))
  in_both (Some j) (Some k) works [] (q ∷ ps) same n a b at bt = absurd same
  in_both (Some j) (Some k) works (p ∷ ss) [] same n a b at bt = absurd same
  in_both (Some j) (Some k) works (player.Plain x ∷ ss) (player.Plain y ∷ ps) same zero a b at bt = inr (
    ap follower_of (sym (maybe.some-injective (actor.Writer j.writer) a at)),
    ap follower_of (sym (maybe.some-injective (actor.Writer k.writer) b bt)),
  )
  in_both (Some j) (Some k) works (player.Plain x ∷ ss) (player.Plain y ∷ ps) same (suc zero) a b at bt = inr (
    ap follower_of (sym (maybe.some-injective (actor.Flusher j.flusher) a at)),
    ap follower_of (sym (maybe.some-injective (actor.Flusher k.flusher) b bt)),
  )
  in_both (Some j) (Some k) works (player.Plain x ∷ ss) (player.Plain y ∷ ps) same (suc (suc n)) a b at bt =
      inl (n, at, bt, refl)
  in_both (Some j) (Some k) works (player.Plain x ∷ ss) (player.Own o ∷ ps) same n a b at bt = absurd same.0
  in_both (Some j) (Some k) works (player.Own o ∷ ss) (player.Plain y ∷ ps) same n a b at bt = absurd same.0
  in_both (Some j) (Some k) works (player.Own o ∷ ss) (player.Own x ∷ ps) same zero a b at bt = inl (0, at, bt, refl)
  in_both (Some j) (Some k) works (player.Own o ∷ ss) (player.Own x ∷ ps) same (suc n) a b at bt =
      ⊎_elim (λ z. inl (suc z.0, z.1, z.2, ap suc z.3)) inr
      (in_both (Some j) (Some k) works ss ps same.1 n a b at bt)

  same_none : (f g : Option (Following R)) → f ≡ None → g ≡ None → IsSameFollower f g
  same_none None None is it = tt
  same_none None (Some g) is it = absurd (cc)
  same_none (Some f) g is it = absurd (cc)

  got_none : (stands : R → List Given → Type 0) (f : Option (Following R)) (groups : List Given)
      (g : Option (Following R)) → f ≡ None → HasGot stands f groups g
  got_none stands None groups g is = tt
  got_none stands (Some f) groups g is = absurd (cc)

-- the player of an actor
player_of : {R : Type 0} (ps : List (Player R)) (i : ℕ) (b : Actor R) → get_elem? (map actor_of ps) i ≡ maybe.some b
    → (p : Player R) × (get_elem? ps i ≡ maybe.some p) × (i < length ps)
player_of [] i b at = absurd (maybe.some-ne-none b (sym at))
player_of (p ∷ ps) zero b at = (p, refl, (omega arith))
player_of (p ∷ ps) (suc i) b at = let r = player_of ps i b at in (r.0, r.1, (let l = r.2 in omega arith))

-- WHAT THE SEATS HAVE HEARD, the receivers got
module _ {L D R : Type 0} (log_seen : L → Seen) (log_gives : L → Call → L → Type 0) (data_seen : D → Seen)
    (data_gives : D → Call → D → Type 0) (about : About L D) (own : Bool) (all_heard : ℕ → Heard)
    (seats : List (Seat (Slot L D) (View L D))) (ps : List (Player R)) (many : length seats ≡ length ps)
    (heard_is : (i : ℕ) (p : Player R) → get_elem? ps i ≡ maybe.some p
    → ◌≡◌ {A = Heard} (all_heard (place own ps i)) (heard_by seats i))
    (work : Option LogWork) (works : is_some work ≡ own) (actors : List (Actor R))
    (are : ◌≡◌ {A = List (Actor R)} actors (crew work ps)) (left : Left L D)
    (P : LeavesParts log_seen log_gives data_seen data_gives about all_heard (views_of actors) left)
    (closed : Closed L D)
    (log_is : closed.log ≡ left.log) (store_is : closed.store ≡ left.store)
    (marks_is : ◌≡◌ {A = Marks} closed.marks left.marks) (code_is : closed.code ≡ left.code)
    (listed : ListsInOrder left.marks (views_of actors) closed.history)
    (loss : TellsLoss about.plan.archive (views_of actors) closed.lost) (fixed : about.live ≡ None) where
  abbrev its_run : (stands : R → List Given → Type 0) (first : Option LogWork) (starts : List (Player R))
      → is_some first ≡ own → AllZip IsSamePlayer starts ps
      → HaveHeard stands (map actor_of starts) seats (map actor_of ps)
      → LeavesWith log_seen log_gives data_seen data_gives stands about.opened.value about.script.value
      about.plan (crew first starts) actors closed
  its_run stands first starts works_first same H = record {
    run = P.run;
    is_run = fixed_run log_seen data_seen about P.run fixed P.is_about;
    begun = P.is_about.begun;
    last = P.last;
    from = record {
      runs = P.runs;
      count = (let n = ap (λ (l : List (Actor R)). length l) are ∙ length_crew work ps in
          let m = length_crew first starts in
          let k = many_workers R work ∙ ap workers (works ∙ sym works_first) ∙ sym (many_workers R first) in
          let h = H.count in
          let s = length-map starts actor_of in
          let t = length-map ps actor_of in omega arith);
      same = λ n a b at bt. ⊎_elim
          (λ z. H.same z.0 a b z.1 z.2)
          (λ z. same_none (follower_of a) (follower_of b) z.0 z.1)
          (pair n a b at bt);
      got = λ told n a b at bt. ⊎_elim
          (λ z.
          let p = player_of ps z.0 b z.2 in
          let s = there seats z.0 (let l = p.2 in omega arith) in
          let heard : ◌≡◌ {A = Heard} (heard_of s.0.me.0) (all_heard n) =
          heard_at seats z.0 s.0 s.1 ∙ sym (heard_is z.0 p.0 p.1)
          ∙ ap all_heard (ap (λ (o : Bool). place o ps z.0) (sym works) ∙ sym z.3) in
          subst (λ (l : List Given). HasGot stands (follower_of a) l (follower_of b))
          (ap (λ (h : Heard). h.groups) heard ∙ (P.hears told n (view_of b) (views_at actors n b bt)).groups) (H.got z.0 s.0 a b s.1 z.1 z.2))
          (λ z. got_none stands (follower_of a) _ (follower_of b) z.0)
          (pair n a b at bt);
    };
    log_calls = P.log_calls;
    data_calls = P.data_calls;
    log_shape = P.log_shape;
    log = log_is ∙ P.log;
    data_part = store_is ∙ P.data_part;
    marks = marks_is ∙ P.marks;
    code = code_is ∙ P.code;
    history = its_history log_seen log_gives data_seen data_gives about all_heard (views_of actors) left P
        closed.history listed;
    lost = its_loss P.run.setup about.plan.archive (views_of actors) P.runs.running.both.in_run closed.lost loss;
  }
    where
      pair : (n : ℕ) (a b : Actor R) → get_elem? (crew first starts) n ≡ maybe.some a
          → get_elem? actors n ≡ maybe.some b
          → InBoth work starts ps n a b ⊎ ((follower_of a ≡ None) × (follower_of b ≡ None))
      pair n a b at bt = in_both first work (works_first ∙ sym works) starts ps same n a b at
          (ap (λ (l : List (Actor R)). get_elem? l n) (sym are) ∙ bt)

  -- with what they have heard
  pub leaves_players : (stands : R → List Given → Type 0) (first : Option LogWork) (starts : List (Player R))
      → is_some first ≡ own → AllZip IsSamePlayer starts ps
      → HaveHeard stands (map actor_of starts) seats (map actor_of ps)
      → LeavesHeard log_seen log_gives data_seen data_gives stands about.opened.value about.script.value
      about.plan (crew first starts) actors seats closed
  leaves_players stands first starts works_first same H = record {
    by = its_run stands first starts works_first same H;
    loaded = P.loaded;
    blocks = λ told i seat at.
        let p = there ps i (let l = seat_below seats i seat at in omega arith) in
        subst (λ (h : Heard). AllByRecursion (IsOfRun (run_log_side log_seen data_seen P.run) P.run.setup.base
        P.runs.running.log_ghost.log) h.blocks)
        (heard_is i p.0 p.1 ∙ sym (heard_at seats i seat at))
        (P.hears told (place own ps i) (view_of (actor_of p.0)) (subst (λ (l : List (Actor R)). get_elem? (views_of l) (place own ps i)
        ≡ maybe.some (view_of (actor_of p.0))) (sym are) (crew_there own work works ps i p.0 p.1))).blocks;
  }
    where
      seat_below : {A : Type 0} (l : List A) (i : ℕ) (a : A) → get_elem? l i ≡ maybe.some a → i < length l
      seat_below [] i a e = absurd (maybe.some-ne-none a (sym e))
      seat_below (x ∷ xs) zero a e = omega arith
      seat_below (x ∷ xs) (suc i) a e = let r = seat_below xs i a e in omega arith
