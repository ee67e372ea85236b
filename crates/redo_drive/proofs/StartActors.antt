-- The actors of a run as it begins: each is new, and in its seat.
use Rattle.std.proofs.Common.{Bool, List, [], ap, append_assoc, arith, cond, false, if◌then◌else◌, length, length-append, ◌==◌, map, refl, subst, suc, sym, true, zero, ℕ, ⊎_elim, ◌++◌, ◌+◌, ◌<◌, ◌∙◌, ◌∷◌, ◌≡◌, ◌≤◌}
use Rattle.std.specs.List.{AllByRecursion}
use Rattle.std.specs.Prelude.{slice_index}
use Rattle.std.proofs.lemmas.Bool.Decides.{nat_tests}
use Rattle.std.proofs.lemmas.List.{get_or_past, length-map}
use lib.ListN.{get_elem?}
use mathlib.Core.Option.{some, some-injective, some-ne-none}
use native.Mathlib.Decide.{dec_le}
use Rattle.model_base.specs.declared.limits.TheConstants.{MAX_GROUP}
use Rattle.model_base.specs.declared.shape.Shape.{Shape}
use Rattle.model_core.proofs.Collected.{group_has_text}
use Rattle.model_core.specs.{Actor, CheckpointerState, Line, line_at, lsn, new_checkpointer, new_cleaner, new_closer, new_flusher, new_reader, new_user, new_writer, ReaderState, UserState, Setup}
use Rattle.model_core.specs.declared.limits.TheConstants.{READERS}
use Rattle.model_core.specs.States as actor
use Rattle.model_running.proofs.Groups.{line_below}
use Rattle.model_report.specs.{lines_of_user}
use Rattle.model_logcore.specs.{StartActor, StartUser}
use Rattle.model_parts.proofs.Bytes.{group-bytes}
use Rattle.model_page.specs.declared.content.Content.{Content}
use Rattle.model_running.specs.{ArePageActors, AreSeated}
use Rattle.model_script.specs.{group_of, IsScriptLine, LineFits}
use Rattle.model_script.specs.declared.script.ScriptLine.{ScriptLine}
use Rattle.redo_drive.proofs.FirstUsers.{AreFirstUsers}
use Rattle.redo_drive.proofs.Seats.{at_either, user_at}
use Rattle.redo_drive.proofs.UserLines.{few_modes, of_script, of_user}
use Rattle.redo_drive.specs.declared.seating.TheConstants.{FIRST_FOLLOWER}
use Rattle.redo_drive.specs.declared.plan.Plan.{Plan}
use Rattle.redo_drive.specs.Setups.{first_reader, followers_from, other_actors, page_actors, programs_of, readers_of, with_others}
use Rattle.redo_drive.specs.StartWords.{seats_before, setup_of}
use Rattle.model_log.specs.{run_layout}

-- where the log runs alone there is no checkpointer
abbrev pub RunsWithPages : Bool → Actor → Type 0
RunsWithPages log_only (actor.Checkpointer t) = log_only ≡ false
RunsWithPages log_only _ = Unit {0}

-- the followers by their numbers
readers_from : ℕ → ℕ → ℕ → List ReaderState
readers_from start number zero = []
readers_from start number (suc n) = new_reader number start ∷ readers_from start (number + 1) n

are_readers : (start number n : ℕ)
    → ◌≡◌ {A = List Actor} (followers_from start number n) (map actor.Reader (readers_from start number n))
unfolding readers_from
are_readers start number zero = refl
are_readers start number (suc n) =
    ap (λ (l : List Actor). actor.Reader (new_reader number start) ∷ l) (are_readers start (number + 1) n)

pub follower_at : (start number n i : ℕ) (a : Actor) → get_elem? (followers_from start number n) i ≡ some a
    → (i < n) × ◌≡◌ {A = Actor} (actor.Reader (new_reader (number + i) start)) a
follower_at start number zero i a at = absurd (some-ne-none a (sym at))
follower_at start number (suc n) zero a at = (
  omega arith,
  ap (λ (k : ℕ). actor.Reader (new_reader k start)) (let e : number + 0 ≡ number = omega arith in e)
      ∙ some-injective (actor.Reader (new_reader number start)) a at,
)
follower_at start number (suc n) (suc i) a at =
    let r = follower_at start (number + 1) n i a at in (
      (let k = r.0 in omega arith),
      ap (λ (k : ℕ). actor.Reader (new_reader k start))
          (let e : number + suc i ≡ number + 1 + i = omega arith in e) ∙ r.1,
    )

-- an actor as the run begins, in its seat
pub record IsNew (c : Setup) (seat_of : ℕ → ℕ) (writer seat : ℕ) (a : Actor) : Type 0 where
  pub start : StartActor c seat_of writer seat a
  pub with_pages : RunsWithPages c.log_only a

module _ (shape : Shape) (pages : List Content) (start : ℕ) (script : List ScriptLine) (live : Bool)
    (plan : Plan) (few : FIRST_FOLLOWER + plan.followers ≤ READERS) (lines : AllByRecursion IsScriptLine script)
    (fits : AllByRecursion (LineFits shape) script) (seat_of : ℕ → ℕ) (users : List UserState)
    (firsts : AreFirstUsers live (run_layout shape).blocks (programs_of shape plan.log_only script) seat_of users) where
  abbrev setup : Setup
  setup = setup_of shape pages start script (length users) plan

  abbrev programs : ℕ → List Line
  programs = programs_of shape plan.log_only script

  abbrev new_last : CheckpointerState
  new_last = new_checkpointer start (first_reader plan.archive) (FIRST_FOLLOWER + plan.followers)

  -- a line of a user, as its program has it
  record IsProgramLine (line : Line) : Type 0 where
    pub some_bytes : 0 < length line.bytes
    pub short : length line.bytes ≤ MAX_GROUP
    pub mode : line.mode < 3
    pub are_bytes : (i : ℕ) → i < length line.bytes → slice_index line.bytes i < 256

  program_line : (user j : ℕ) → j < length (programs user) → IsProgramLine (line_at (programs user) j)
  program_line user j there =
      let count = (of_script shape pages start script (length users) plan few).count user in
      let one = line_below (lines_of_user user script) j (omega arith) in
      let fit : LineFits shape one.0 = (of_user (LineFits shape) script user j one.0 fits one.1).0 in
      let in_range : IsScriptLine one.0 = (of_user IsScriptLine script user j one.0 lines one.1).0 in
      subst IsProgramLine (sym ((of_script shape pages start script (length users) plan few).each
      user j one.0 one.1)) (record {
        some_bytes = group_has_text (group_of shape.space one.0) fit.has_text;
        short = fit.short;
        mode = few_modes one.0 in_range;
        are_bytes = λ i l. group-bytes (group_of shape.space one.0) fit.has_text.each i 0 l;
      })

  start_user : (u : UserState) → u ≡ new_user u.user (run_layout shape).blocks (programs u.user) → StartUser setup u
  start_user u is = record {
    is = is;
    sound = λ j there. (let line = program_line u.user j there in (line.some_bytes, line.short, line.mode));
    are_bytes = λ j i within. elim (dec_le (length (programs u.user)) j) [
      | yes past ↦ absurd (let none = ap (λ (z : Line). length z.bytes) (get_or_past (programs u.user) j (record { mode = 0; bytes = []; changes = [] }) past) in omega arith)
      | no there ↦ (program_line u.user j (omega arith)).are_bytes i within
    ];
  }

  -- the run starts at the first data byte of a block, so that its sn and its lsn tell one another
  module _ (place : lsn setup.base ≡ start) where
    abbrev IsHere : ℕ → Actor → Type 0
    IsHere seat a = IsNew setup seat_of (length users) seat a

    user_starts : (seat : ℕ) (a : Actor) → get_elem? (map actor.User users) seat ≡ some a → IsHere seat a
    user_starts seat a at =
        let u = user_at users seat a at in
        let own = firsts.each seat u.0 u.2 in
        subst (IsHere seat) u.1 (record { start = (own.0, start_user u.0 own.1); with_pages = tt })

    -- after the users, the writer and the flusher
    pages_start : (b : Bool) → b ≡ plan.log_only → (i : ℕ) (a : Actor)
        → get_elem? (page_actors shape start (record plan { log_only = b })) i ≡ some a
        → IsHere (length users + (2 + i)) a
    pages_start true is i a at = absurd (some-ne-none a (sym at))
    pages_start false is zero a at = subst (IsHere (length users + 2)) (some-injective (actor.Closer new_closer) a at)
        (record { start = (refl, refl); with_pages = tt })
    pages_start false is (suc zero) a at = subst (IsHere (length users + 3)) (some-injective (actor.Cleaner (new_cleaner shape.pages shape.page_size shape.slots)) a at)
        (record { start = (refl, refl); with_pages = tt })
    pages_start false is (suc (suc zero)) a at =
        subst (IsHere (length users + 4)) (some-injective (actor.Checkpointer new_last) a at) (record {
          start = (
            refl,
            ap (λ (x : ℕ). new_checkpointer x (first_reader plan.archive)
                (FIRST_FOLLOWER + plan.followers)) (sym place),
          );
          with_pages = sym is;
        })
    pages_start false is (suc (suc (suc i))) a at = absurd (some-ne-none a (sym at))

    others_start : (i : ℕ) (a : Actor) → get_elem? (other_actors shape start plan) i ≡ some a
        → IsHere (length users + i) a
    others_start zero a at = subst (IsHere (length users + 0)) (some-injective (actor.Writer (new_writer (run_layout shape).blocks start)) a at)
        (record { start = (omega arith, ap (new_writer (run_layout shape).blocks) (sym place)); with_pages = tt })
    others_start (suc zero) a at = subst (IsHere (length users + 1)) (some-injective (actor.Flusher (new_flusher start)) a at)
        (record { start = (refl, ap new_flusher (sym place)); with_pages = tt })
    others_start (suc (suc i)) a at = subst (λ (n : ℕ). IsHere (length users + n) a)
        (let e : 2 + i ≡ suc (suc i) = omega arith in e) (pages_start plan.log_only refl i a at)

    -- and at last the readers of the log
    long_others : (b : Bool) → length (page_actors shape start (record plan { log_only = b })) + 2
        ≡ (if b then 2 else 5)
    long_others true = refl
    long_others false = refl

    -- a reader with its number, in the seat that belongs to that
    reader_starts : (i number : ℕ) → first_reader plan.archive + i ≡ number → number < FIRST_FOLLOWER + plan.followers
        → IsHere (seats_before (length users) plan.log_only + i) (actor.Reader (new_reader number start))
    reader_starts i number is below =
        let there : seats_before (length users) plan.log_only + i ≡ setup.reader_at number =
        ap (λ (n : ℕ). seats_before (length users) plan.log_only + n) (omega arith) in
        record {
          start = (there, omega arith, omega arith, ap (new_reader number) (sym place));
          with_pages = tt;
        }

    readers_start : (b : Bool) → plan.archive ≡ b → (i : ℕ) (a : Actor)
        → get_elem? (readers_of start (record plan { archive = b })) i ≡ some a
        → IsHere (seats_before (length users) plan.log_only + i) a
    readers_start true is zero a at =
        subst (IsHere (seats_before (length users) plan.log_only + 0))
        (some-injective (actor.Reader (new_reader 0 start)) a at)
        (reader_starts 0 0 (let e = ap first_reader is in omega arith) (omega arith))
    readers_start true is (suc i) a at =
        let r = follower_at start FIRST_FOLLOWER plan.followers i a at in
        let below = r.0 in
        subst (IsHere (seats_before (length users) plan.log_only + suc i)) r.1
        (reader_starts (suc i) (FIRST_FOLLOWER + i) (let e = ap first_reader is in omega arith) (omega arith))
    readers_start false is i a at =
        let r = follower_at start FIRST_FOLLOWER plan.followers i a at in
        let below = r.0 in
        subst (IsHere (seats_before (length users) plan.log_only + i)) r.1
        (reader_starts i (FIRST_FOLLOWER + i) (let e = ap first_reader is in omega arith) (omega arith))

    -- each actor is new, and in its seat
    pub are_new : (seat : ℕ) (a : Actor)
        → get_elem? (with_others (map actor.User users) shape start plan) seat ≡ some a
        → IsHere seat a
    are_new seat a at = ⊎_elim
        (λ before. ⊎_elim (user_starts seat a)
        (λ z. subst (λ (n : ℕ). IsHere n a) (sym (z.1 ∙ ap (λ (n : ℕ). n + z.0) long)) (others_start z.0 a z.2))
        (at_either (map actor.User users) others a seat before))
        (λ z. subst (λ (n : ℕ). IsHere n a)
        (let users_long = long in let first = z.1 in let both = length-append (map actor.User users) others in
        let more = long_others plan.log_only in omega arith) (readers_start plan.archive refl z.0 a z.2))
        (at_either (map actor.User users ++ others) readers a seat at)
      where
        others : List Actor
        others = other_actors shape start plan

        readers : List Actor
        readers = readers_of start plan

        long : length (map actor.User users) ≡ length users
        long = length-map users actor.User

  -- the readers of the log by their states
  record AreReaders (actors : List Actor) : Type 0 where
    pub states : List ReaderState
    pub are : ◌≡◌ {A = List Actor} actors (map actor.Reader states)

  all_readers : (b : Bool) → AreReaders (readers_of start (record plan { archive = b }))
  all_readers true = record {
    states = new_reader 0 start ∷ readers_from start FIRST_FOLLOWER plan.followers;
    are = ap (λ (l : List Actor). actor.Reader (new_reader 0 start) ∷ l)
        (are_readers start FIRST_FOLLOWER plan.followers);
  }
  all_readers false = record {
    states = readers_from start FIRST_FOLLOWER plan.followers;
    are = are_readers start FIRST_FOLLOWER plan.followers;
  }

  are_page_actors : (b : Bool)
      → ArePageActors b (page_actors shape start (record plan { log_only = b }) ++ readers_of start plan)
  are_page_actors true = let all = all_readers plan.archive in (all.states, all.are)
  are_page_actors false = let all = all_readers plan.archive in (
    record { closer = new_closer; cleaner = new_cleaner shape.pages shape.page_size shape.slots; checkpointer = new_last },
    all.states,
    ap (λ (l : List Actor). actor.Closer new_closer ∷ actor.Cleaner (new_cleaner shape.pages shape.page_size shape.slots)
        ∷ actor.Checkpointer new_last ∷ l) all.are,
  )

  -- a user that begins with a line keeps all
  keeps_some : (user blocks : ℕ) (lines : List Line) → 0 < length lines → (new_user user blocks lines).keeps ≡ true
  keeps_some user blocks lines has_line =
      let test : (length lines == 0) ≡ false = grind (arith, nat_tests) in ap (λ (t : Bool). cond t false true) test

  -- the users are seated, and the other actors after them
  pub are_seated : AreSeated live setup (with_others (map actor.User users) shape start plan)
  are_seated = record {
    users = users;
    writer = new_writer (run_layout shape).blocks start;
    flusher = new_flusher start;
    others = page_actors shape start plan ++ readers_of start plan;
    are = append_assoc (map actor.User users) (other_actors shape start plan)
        (readers_of start plan);
    page_actors = are_page_actors plan.log_only;
    ascending = firsts.ascending;
    have_lines = firsts.have_lines;
    keep = λ fixed i u at. ap (λ (z : UserState). z.keeps) (firsts.each i u at).1
        ∙ keeps_some u.user (run_layout shape).blocks (programs u.user) (firsts.have_lines fixed i u at);
    all = firsts.all;
    closer = refl;
    cleaner = refl;
    checkpointer = refl;
  }
