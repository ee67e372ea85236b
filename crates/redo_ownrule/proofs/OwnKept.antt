-- A turn of a user that writes for itself keeps the rule, whatever it does to the slots.
use Rattle.std.proofs.Common.{Bool, List, None, Option, Some, [], ap, arith, false, inl, inr, is_some, length, length-set}
use Rattle.std.proofs.Common.{refl, set, subst, suc, sym, zero, ℕ}
use Rattle.std.proofs.Common.{⊎_elim, ◌+◌, ◌∙◌, ◌∷◌, ◌≡◌, ◌≢◌, ◌≤◌, ◌⊎◌}
use lib.ListN.{get_elem?}
use mathlib.Core.Option as maybe
use Rattle.atomic_table.specs.Table.{State}
use Rattle.model_core.proofs.Lists.{set_at, set_else}
use Rattle.model_core.specs.{Entry, Given, UserState}
use Rattle.model_core.specs.States as model
use Rattle.model_core.specs.Sides.{DataSide, LogSide}
use Rattle.model_core.specs.Hands.{GivesFailed, IsFreeToCheck}
use Rattle.model_core.specs.declared.ops.Answer.{Answer}
use Rattle.model_own.specs.OwnWrites.{all_actors, UserTurn, LogWork, own_goes_on, own_lends, own_next, own_step_of, OwnUser}
use Rattle.model_own.specs.ErrandFits.{has_work}
use Rattle.model_ownrun.proofs.Seats.{user_there}
use Rattle.redo_disk.specs.{Call}
use Rattle.redo_disk.specs.Sight.{Seen}
use Rattle.redo_drive.specs.Running.{HasSamePages, IsPlayed, run_data_side, run_log_side, RunOf, groups_of, RunsWith}
use Rattle.redo_drive.specs.declared.parts.Parts.{Parts}
use Rattle.redo_ownmachine.proofs.From as from
use Rattle.redo_ownmachine.proofs.Turned as turned
use Rattle.redo_ownmachine.specs.OwnSeats.{actors_of, OwnSeats}
use Rattle.redo_ownmachine.specs.OwnStore.{own_core_of, OwnRunsWith}
use Rattle.redo_ownmachine.specs.Serving.{IsUserServed}
use Rattle.redo_logdev.specs.Part as log_part
use Rattle.redo_ownrule.proofs.OwnFailing.{gives_where, WorkGives}
use Rattle.redo_ownrule.proofs.OwnTold as causes
use Rattle.redo_ownrule.proofs.OwnLoading.{flushed_up, log_longer}
use Rattle.redo_ownrule.proofs.OwnReads.{reads_go_on}
use Rattle.redo_rule.proofs.PagesRead.{has_read_on}
use Rattle.redo_ownrule.specs.OwnPlays.{errand_of, own_behind}
use Rattle.redo_rule.proofs.Hearing.{of_longer}
use Rattle.redo_rule.proofs.Kept as kept
use Rattle.redo_rule.specs.Handing.{HaveHandedOn, HaveLoaded, HaveRead}
use Rattle.redo_rule.specs.OwnSide.{Beside, HasItsWork, IsWorked, OwnSide, SitsAs}
use Rattle.redo_rule.specs.Ruled.{Knows, Ruled}
use Rattle.redo_rule.specs.declared.law.About.{About}
use Rattle.redo_rule.specs.declared.law.Errand.{Errand}
use Rattle.redo_rule.specs.declared.law.Heard.{Heard}
use Rattle.redo_rule.specs.declared.law.Numbered.{Numbered}
use Rattle.redo_rule.specs.declared.law.Slot.{Slot}
use Rattle.redo_rule.specs.declared.law.View.{View}

-- a user, the writer or the flusher: they follow nothing
abbrev Works : model.Actor → Type 0
Works (model.User u) = Unit {0}
Works (model.Writer s) = Unit {0}
Works (model.Flusher t) = Unit {0}
Works _ = ⊥

no_groups : (a : model.Actor) (log : List Entry) → Works a → ◌≡◌ {A = List Given} (groups_of a log) []
no_groups (model.User u) log w = refl
no_groups (model.Writer s) log w = refl
no_groups (model.Flusher t) log w = refl
no_groups _ log w = absurd w

-- whoever sits there after a user's turn sat there before, or works, as did who sat there
abbrev Was : List model.Actor → ℕ → model.Actor → Type 0
Was before n b = (a : model.Actor) × (get_elem? before n ≡ maybe.some a)
    × (◌≡◌ {A = model.Actor} b a ⊎ (Works a × Works b))

was_there : (users left : List OwnUser) (k k' : LogWork) (others : List model.Actor) → length left ≡ length users
    → (n : ℕ) (b : model.Actor) → get_elem? (all_actors left k' others) n ≡ maybe.some b
    → Was (all_actors users k others) n b
was_there [] [] k k' others same zero b at =
    (model.Writer k.writer, refl, inr (tt, subst Works (maybe.some-injective (model.Writer k'.writer) b at) tt))
was_there [] [] k k' others same (suc zero) b at =
    (model.Flusher k.flusher, refl, inr (tt, subst Works (maybe.some-injective (model.Flusher k'.flusher) b at) tt))
was_there [] [] k k' others same (suc (suc n)) b at = (b, at, inl refl)
was_there [] (y ∷ ys) k k' others same n b at = absurd (omega arith)
was_there (x ∷ xs) [] k k' others same n b at = absurd (omega arith)
was_there (x ∷ xs) (y ∷ ys) k k' others same zero b at =
    (model.User x.user, refl, inr (tt, subst Works (maybe.some-injective (model.User y.user) b at) tt))
was_there (x ∷ xs) (y ∷ ys) k k' others same (suc n) b at = was_there xs ys k k' others (omega arith) n b at

-- whoever sits behind the users, the writer and the flusher is the same
behind_same : (users left : List OwnUser) (k k' : LogWork) (others : List model.Actor) → length left ≡ length users
    → (n : ℕ) → length users + 2 ≤ n
    → get_elem? (all_actors left k' others) n ≡ get_elem? (all_actors users k others) n
behind_same [] [] k k' others same zero far = absurd (omega arith)
behind_same [] [] k k' others same (suc zero) far = absurd (omega arith)
behind_same [] [] k k' others same (suc (suc n)) far = refl
behind_same [] (y ∷ ys) k k' others same n far = absurd (omega arith)
behind_same (x ∷ xs) [] k k' others same n far = absurd (omega arith)
behind_same (x ∷ xs) (y ∷ ys) k k' others same zero far = absurd (omega arith)
behind_same (x ∷ xs) (y ∷ ys) k k' others same (suc n) far = behind_same xs ys k k' others (omega arith) n (omega arith)

abbrev user_or : UserState → model.Actor → UserState
user_or d (model.User u) = u
user_or d _ = d

-- WHO A SEAT'S USER IS among those that write for themselves
pub record IsSeated (own : Option OwnSide) (n : ℕ) (o : OwnUser) : Type 0 where
  pub side : OwnSide
  pub own_is : ◌≡◌ {A = Option OwnSide} own (Some side)
  pub there : get_elem? side.users n ≡ maybe.some o

pub seat_of_user : (D : LogSide) (p : D.Part) (own : Option OwnSide) (actors : List model.Actor)
    → HasItsWork D p own actors → (n : ℕ) (o : OwnUser) → get_elem? actors n ≡ maybe.some (model.User o.user)
    → SitsAs own (Some (errand_of o)) n → IsSeated own n o
seat_of_user D p None actors W n o at sits = absurd sits
seat_of_user D p (Some side) actors W n o at sits =
    let u : OwnUser = record { user = sits.0; errand = o.errand; helped = o.helped } in
    let here : get_elem? actors n ≡ maybe.some (model.User sits.0) =
    ap (λ (l : List model.Actor). get_elem? l n) W.are ∙ user_there side.users side.work W.others n u sits.1 in
    let same : sits.0 ≡ o.user = ap (user_or o.user)
    (maybe.some-injective (model.User sits.0) (model.User o.user) (sym here ∙ at)) in
    record {
      side = side;
      own_is = refl;
      there = sits.1
          ∙ ap (λ (z : UserState). maybe.some (record { user = z; errand = o.errand; helped = o.helped })) same;
    }

-- so many actors
all_length : (users : List OwnUser) (k : LogWork) (others : List model.Actor)
    → length (all_actors users k others) ≡ length users + 2 + length others
all_length [] k others = omega arith
all_length (x ∷ xs) k others = let e = all_length xs k others in omega arith

-- the run goes on, and what each has handed on is the run's
pub record RunsSo {L D : Type 0} (log_seen : L → Seen) (data_seen : D → Seen) (archive : Bool) (run : RunOf L D) (parts : Parts L D)
    (heard : ℕ → Heard) (actors : List model.Actor) : Type 0 where
  pub runs : RunsWith log_seen data_seen run archive parts actors
  pub hears : HaveHandedOn (run_log_side log_seen data_seen run) run.setup.base parts.log heard actors
      runs.running.log_ghost.log
  pub reads : HaveRead run.setup parts.words.words heard runs.running.log_ghost.log
  pub loaded : HaveLoaded parts.words.words actors

module _ {L D : Type 0} (log_seen : L → Seen) (log_gives : L → Call → L → Type 0) (data_seen : D → Seen)
    (data_gives : D → Call → D → Type 0) (about : About L D) (s : State (Slot L D) (View L D))
    (R : Ruled log_seen log_gives data_seen data_gives about s) (id : ℕ) (v : View L D) (x : Numbered)
    (one : v.seats ≡ x ∷ []) (at : get_elem? s.views id ≡ maybe.some v) (side : OwnSide)
    (own_is : ◌≡◌ {A = Option OwnSide} R.beside.own (Some side)) (o : OwnUser)
    (its_seat : get_elem? side.users x.number ≡ maybe.some o) where
  abbrev A : LogSide
  A = run_log_side log_seen data_seen R.run

  abbrev B : DataSide
  B = run_data_side log_seen data_seen R.run

  pub known : Knows about R.parts R.beside R.actors R.heard R.seat_of R.keeper R.out id v
  known = kept.known log_seen log_gives data_seen data_gives about s R id v x one at

  first : get_elem? v.seats 0 ≡ maybe.some x
  first = kept.first log_seen log_gives data_seen data_gives about s R id v x one at

  pub worked : IsWorked A R.parts.log side R.actors
  worked = subst (λ (z : Option OwnSide). HasItsWork A R.parts.log z R.actors) own_is R.own

  abbrev pub seats : OwnSeats
  seats = record { users = side.users; work = side.work; others = worked.others }

  -- the same run, by the list of its users, of the log's work and of the others
  abbrev by_seats : RunsSo log_seen data_seen about.plan.archive R.run R.parts R.heard (actors_of seats)
  by_seats = subst (RunsSo log_seen data_seen about.plan.archive R.run R.parts R.heard) worked.are
      (record { runs = R.runs; hears = R.hears; reads = R.reads; loaded = R.loaded })

  abbrev pub before : OwnRunsWith log_seen data_seen R.run about.plan.archive R.parts seats
  before = record { runs = by_seats.runs; errands = worked.errands }

  in_actors : (n : ℕ) (a : model.Actor) → get_elem? (actors_of seats) n ≡ maybe.some a
      → get_elem? R.actors n ≡ maybe.some a
  in_actors n a there = ap (λ (l : List model.Actor). get_elem? l n) worked.are ∙ there

  -- whoever gives the log part back after a failed call has a code that the part has
  its_told : (n : ℕ) (a : model.Actor) (code : ℕ) → get_elem? (actors_of seats) n ≡ maybe.some a → GivesFailed a code
      → A.Cause R.parts.log code
  its_told n a code there = R.told n a code (in_actors n a there)

  pub work_told : (code : ℕ) → WorkGives side.work code → A.Cause R.parts.log code
  work_told = causes.work_told log_seen data_seen R.run R.parts seats before its_told

  module _ (r : Answer) (new : Parts L D) (same : HasSamePages R.parts new)
      (played : IsPlayed log_seen data_seen R.run (own_next o side.work) (own_lends o side.work) R.parts r new)
      (block : List ℕ) where
    abbrev pub then : OwnUser
    then = (own_goes_on o side.work r).0

    abbrev pub left : LogWork
    left = (own_goes_on o side.work r).1

    abbrev pub now : OwnSide
    now = record { users = set side.users x.number then; work = left }

    abbrev pub after : OwnSeats
    after = record { users = now.users; work = left; others = worked.others }

    abbrev pub beside : Beside
    beside = record { block = block; own = Some now }

    served : IsUserServed log_seen data_seen R.run R.parts o side.work (own_step_of o side.work r) new then left
    served = record { answer = r; played = played; user = refl; its_work = refl; ends = refl }

    pub turn : UserTurn A B (own_core_of log_seen data_seen R.run R.parts seats) x.number r
        (own_step_of o side.work r) (own_core_of log_seen data_seen R.run new after)
    turn = record {
      who = o;
      who_is = its_seat;
      code = played.code;
      log_served = played.log_served;
      data_served = played.data_served;
      layout = played.layout;
      words = played.words;
      lists = played.lists;
      answered = played.answered;
      users = refl;
      work = refl;
      others = refl;
      ends = refl;
    }

    abbrev pub runs_behind : OwnRunsWith log_seen data_seen R.run about.plan.archive new after
    runs_behind = turned.runs_then log_seen data_seen R.run R.parts new seats after x.number r
        (own_step_of o side.work r) same (inl turn) before

    many : length now.users ≡ length side.users
    many = length-set side.users x.number then

    was : (n : ℕ) (b : model.Actor) → get_elem? (actors_of after) n ≡ maybe.some b → Was (actors_of seats) n b
    was = was_there side.users now.users side.work left worked.others many

    hears_behind : HaveHandedOn A R.run.setup.base new.log R.heard (actors_of after)
        runs_behind.runs.running.log_ghost.log
    hears_behind told n b there =
        let w = was n b there in
        let log = before.runs.running.log_ghost.log in
        let log_now = runs_behind.runs.running.log_ghost.log in
        let told_before = from.told_earlier log_seen data_seen R.run R.parts new side.users side.work left worked.others
        x.number o then (own_step_of o side.work r) its_seat served before runs_behind told in
        let longer = log_longer log_seen data_seen R.run R.parts new side.users side.work left worked.others x.number o
        then (own_step_of o side.work r) its_seat served before runs_behind in
        let h = by_seats.hears told_before n w.0 w.1 in
        record {
          groups = h.groups ∙ ⊎_elim
              (λ is. sym (from.groups_same log_seen data_seen R.run R.parts new side.users side.work left worked.others
              x.number o then (own_step_of o side.work r) its_seat served before runs_behind told n w.0 w.1)
              ∙ ap (λ (z : model.Actor). groups_of z log_now) (sym is))
              (λ both. no_groups w.0 log both.0 ∙ sym (no_groups b log_now both.1))
              w.2;
          blocks = of_longer A R.run.setup.base log log_now longer.0 longer.1 (R.heard n).blocks h.blocks;
        }

    -- no reader of the log has had a turn
    loaded_behind : HaveLoaded new.words.words (actors_of after)
    loaded_behind n reader there =
        let w = was n (model.Reader reader) there in
        let up = flushed_up log_seen data_seen R.run R.parts new side.users side.work left worked.others x.number o then
        (own_step_of o side.work r) its_seat served before runs_behind in
        ⊎_elim
        (λ is. let low = by_seats.loaded n reader (w.1 ∙ ap (λ (z : model.Actor). maybe.some z) (sym is)) in omega arith)
        (λ both. absurd both.1)
        w.2

    module _ (free : IsFreeToCheck (model.User then.user))
        (same_log : has_work o.errand ≡ false → ◌≡◌ {A = log_part.Part L} new.log R.parts.log)
        (told_still : (n : ℕ) (c : model.Actor) (code : ℕ) → length side.users + 2 ≤ n
        → get_elem? R.actors n ≡ maybe.some c → GivesFailed c code → A.Cause R.parts.log code → A.Cause new.log code)
      where
        told_behind : (n : ℕ) (c : model.Actor) (code : ℕ) → get_elem? (actors_of after) n ≡ maybe.some c
            → GivesFailed c code → A.Cause new.log code
        told_behind n c code there gives = ⊎_elim
            (λ far.
            let beyond : length side.users + 2 ≤ n = (let m = many in omega arith) in
            let was_it : get_elem? R.actors n ≡ maybe.some c = in_actors n c
            (sym (behind_same side.users now.users side.work left worked.others many n beyond) ∙ there) in
            told_still n c code beyond was_it gives (R.told n c code was_it gives))
            (causes.left_told log_seen data_seen R.run R.parts seats before its_told x.number o its_seat r played.code
            new.log played.log_served same_log code)
            (gives_where now.users left worked.others n c code there gives)

        others_sit : (n : ℕ) (f : Option Errand) → n ≢ x.number → SitsAs (Some side) f n
            → (get_elem? (actors_of after) n ≡ get_elem? (actors_of seats) n) × SitsAs (Some now) f n
        others_sit n None ne far = (
          behind_same side.users now.users side.work left worked.others many n far,
          (let m = many in omega arith),
        )
        others_sit n (Some f) ne at_n =
            let still : get_elem? now.users n ≡ get_elem? side.users n = set_else side.users x.number n then ne in
            let user : OwnUser = record { user = at_n.0; errand = f.step; helped = f.helped } in (
              user_there now.users left worked.others n user (still ∙ at_n.1)
                  ∙ sym (user_there side.users side.work worked.others n user at_n.1),
              (at_n.0, still ∙ at_n.1),
            )

        -- WHAT THE TURN LEAVES of the run
        pub leaves : kept.Leaves log_seen log_gives data_seen data_gives about s R id v x one at (own_behind x then) new
            beside (actors_of after) R.heard
        leaves = record {
          same = same;
          run = R.run;
          is_about = R.is_about;
          runs = runs_behind.runs;
          own_is = ap (λ (z : Option OwnSide). is_some z) (sym own_is);
          own = record { others = worked.others; are = refl; errands = runs_behind.errands };
          hears = hears_behind;
          reads = λ n. has_read_on R.run.setup R.parts.words.words new.words.words before.runs.running.log_ghost.log
              runs_behind.runs.running.log_ghost.log
              (reads_go_on log_seen data_seen R.run R.parts new side.users side.work left worked.others x.number o then
              (own_step_of o side.work r) its_seat served before runs_behind) (R.heard n) (by_seats.reads n);
          loaded = loaded_behind;
          count = all_length now.users left worked.others
              ∙ ap (λ (n : ℕ). n + 2 + length worked.others) many
              ∙ sym (all_length side.users side.work worked.others) ∙ ap length (sym worked.are);
          told = told_behind;
          number = refl;
          here = user_there now.users left worked.others x.number then (set_at side.users x.number o then its_seat);
          its_heard = (known.mine 0 x first).2;
          free = free;
          sits = (then.user, set_at side.users x.number o then its_seat);
          others = λ n f ne at_n.
              let sat = others_sit n f ne (subst (λ (z : Option OwnSide). SitsAs z f n) own_is at_n) in (
                sat.0 ∙ ap (λ (l : List model.Actor). get_elem? l n) (sym worked.are),
                refl,
                sat.1,
              );
        }
