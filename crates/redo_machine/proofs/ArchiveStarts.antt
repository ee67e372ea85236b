-- At a run's start its archive stands beside its actors.
use Rattle.std.proofs.Common.{Bool, List, None, Option, Some, [], ap, arith, eqb-true, false, is_some, length, refl, slice_index, subst, sym, true, ℕ, ◌*◌, ◌++◌, ◌+◌, ◌<◌, ◌∙◌, ◌∷◌, ◌≡◌}
use Rattle.std.proofs.lemmas.Bool.{ne_eqb}
use Rattle.std.specs.Prelude.{IfSome}
use lib.ListN.{get_elem?}
use mathlib.Core.Option.{some}
use Rattle.model_base.specs.declared.shape.Shape.{Shape}
use Rattle.model_core.proofs.Lsns.{lsn_le}
use Rattle.model_core.specs.{flat, Given, new_reader, ReaderState, Setup}
use Rattle.model_core.specs.States as model
use Rattle.model_ends.specs.Bound.{bytes_of}
use Rattle.model_log.specs.{IsAtDataStart}
use Rattle.model_log.specs.declared.group.Whole.{Whole}
use Rattle.model_logcore.specs.{sum_over_actors}
use Rattle.model_running.specs.Histories.{AreWholesOf}
use Rattle.model_script.specs.{script_end}
use Rattle.model_script.specs.declared.script.ScriptLine.{ScriptLine}
use Rattle.redo_archive.specs.Part.{Part, PartArchives}
use Rattle.redo_archiver.specs.{append_code, KeepsPace}
use Rattle.redo_disk.specs.{Call, Seen}
use Rattle.redo_disk.specs.declared.error.DevError.TheVariants.{Failed}
use Rattle.redo_drive.proofs.CallsOn.{not_called}
use Rattle.redo_drive.proofs.FollowersLeft.{among, starts_with}
use Rattle.redo_drive.proofs.RunStarts.{no_log}
use Rattle.redo_drive.specs.{HasCome, HasComeTo, HasNoArchiver, IsBeside, StandsBeside, RunOf, RunsWith, AreNewFollowers, IsNewArchive, MayBegin, followers_in, views_of}
use Rattle.redo_drive.specs.Begins.{BeginsWith}
use Rattle.redo_drive.specs.Setups.{first_reader, followers_from, readers_of}
use Rattle.redo_drive.specs.LiveActors.{seated_before}
use Rattle.redo_drive.specs.declared.making.Beginning.{Beginning}
use Rattle.redo_drive.specs.declared.parts.Parts.{Parts}
use Rattle.redo_drive.specs.declared.seating.TheConstants.{FIRST_FOLLOWER}
use Rattle.redo_drive.specs.declared.plan.Plan.{Plan}
use Rattle.redo_follow.specs.Following.{Following}
use Rattle.redo_machine.proofs.Alone.{lines_end}
use Rattle.redo_machine.specs.Reading.{AreNumbered}
use Rattle.redo_store.specs.declared.opened.Opened.{Opened}

-- what stands behind some actors
just_behind : (xs ys : List model.Actor) (y : model.Actor) → get_elem? (xs ++ y ∷ ys) (length xs) ≡ some y
just_behind [] ys y = refl
just_behind (x ∷ xs) ys y = just_behind xs ys y

no_wholes : (log : List model.Entry) (wholes : List Whole) → ◌≡◌ {A = List model.Entry} log [] → AreWholesOf log wholes
    → ◌≡◌ {A = List Whole} wholes []
no_wholes [] [] none are = refl
no_wholes [] (w ∷ ws) none are = absurd are
no_wholes (e ∷ es) wholes none are = absurd (cc)

-- an archive that has come there stands there
pub beside_of : {L D A : Type 0} {archive : Bool} (log_seen : L → Seen) (data_seen : D → Seen) (seen : A → Seen)
    (gives : A → Call → A → Type 0) (run : RunOf L D) (parts : Parts L D) (actors : List model.Actor)
    (runs : RunsWith log_seen data_seen run archive parts actors) (before after : Option (Part A))
    → HasComeTo log_seen data_seen seen gives run parts actors runs before after
    → IsBeside seen run.setup parts.words.words actors after
beside_of log_seen data_seen seen gives run parts actors runs None None come = come
beside_of log_seen data_seen seen gives run parts actors runs None (Some part) come = absurd come
beside_of log_seen data_seen seen gives run parts actors runs (Some part) None come = absurd come
beside_of log_seen data_seen seen gives run parts actors runs (Some part) (Some later) come = come.beside

module _ {L D A R : Type 0} (log_seen : L → Seen) (data_seen : D → Seen) (seen : A → Seen) (stands : R → List Given → Type 0)
    (opened : Opened L D) (script : List ScriptLine) (plan : Plan) (followers : List (Following R))
    (start : Beginning L D R)
    (begins : BeginsWith log_seen data_seen stands opened script plan followers start)
    (may : MayBegin opened script plan.log_only) where
  abbrev run : RunOf L D
  run = begins.run

  abbrev c : Setup
  c = run.setup

  abbrev actors : List model.Actor
  actors = views_of start.actors.items

  abbrev words : List ℕ
  words = start.parts.words.words

  -- nothing has been handed on
  empty : ◌≡◌ {A = List model.Entry} begins.from.runs.running.log_ghost.log []
  empty =
      let W = begins.from.runs.running in
      let first = begins.stands.words in
      let same : ◌≡◌ {A = List ℕ} (flat W.shared) (flat first.by_name) = sym W.flat_is ∙ first.in_order in
      let sn : W.shared.sn ≡ first.by_name.sn = ap (λ (ws : List ℕ). slice_index ws 0) same in
      no_log c.base W.shared.sn W.log_ghost.log W.both.logged.global.tiled.tiles (sn ∙ first.of_log.sn)

  flushed_is : slice_index words 3 ≡ opened.start
  flushed_is = let first = begins.stands.words in
      ap (λ (ws : List ℕ). slice_index ws 3) first.in_order ∙ first.of_log.flushed ∙ begins.is_run.start

  -- each reader sits where its number has it
  seat_is : (seat : ℕ) (r : ReaderState) → get_elem? actors seat ≡ some (model.Reader r) → seat ≡ c.reader_at r.number
  seat_is seat r at = (begins.at_start.starts.each seat (model.Reader r) at).0

  -- EACH FOLLOWER HAS A NUMBER.
  pub numbered : AreNewFollowers opened.start followers → AreNumbered start.actors.items
  numbered new = among (λ (f : Following R). 0 < f.state.number) start.actors.items (λ i f at.
      let these : ◌≡◌ {A = List (Following R)} (followers_in start.actors.items) followers =
      starts_with opened.shape script opened.start plan followers start.actors.items begins.many
      begins.stands.are_new begins.followers in
      let is = new.each i f (subst (λ (l : List (Following R)). get_elem? l i ≡ some f) these at) in
      let number : f.state.number ≡ FIRST_FOLLOWER + i = ap (λ (r : ReaderState). r.number) is in omega arith)

  -- WITHOUT AN ARCHIVE no actor archives.
  none_archives : plan.archive ≡ false → HasNoArchiver actors
  none_archives alone seat r at =
      let first = begins.is_run.first_is in
      let one = ap first_reader alone in
      let low = (begins.at_start.starts.each seat (model.Reader r) at).1 in
      ne_eqb r.number 0 (λ zero. omega arith)

  -- WITH ONE it stands beside its archiver.
  module _ (archived : plan.archive ≡ true) (gives : A → Call → A → Type 0) (part : Part A)
      (new : IsNewArchive seen opened script part) where
    abbrev front : List model.Actor
    front = seated_before opened.shape script opened.start plan

    its_seat : get_elem? actors (length front) ≡ some (model.Reader (new_reader 0 opened.start))
    its_seat =
        let are : ◌≡◌ {A = List model.Actor} actors (front ++ model.Reader (new_reader 0 opened.start)
        ∷ followers_from opened.start FIRST_FOLLOWER plan.followers) =
        begins.stands.are_new
        ∙ ap (λ (b : Bool). front ++ readers_of opened.start (record plan { archive = b })) archived in
        ap (λ (l : List model.Actor). get_elem? l (length front)) are
        ∙ just_behind front (followers_from opened.start FIRST_FOLLOWER plan.followers)
        (model.Reader (new_reader 0 opened.start))

    pace : KeepsPace seen (script_end opened.shape opened.start script) (slice_index words 3) (new_reader 0 opened.start) part
    pace =
        let place = may.runnable.place in
        let flushed = flushed_is in
        let mark : part.marks.mark ≡ opened.start = ap (λ (z : _). z.mark) new.begun in
        let number : part.marks.number ≡ 0 = ap (λ (z : _). z.number) new.begun in
        let from = new.start in
        record {
          kind = refl;
          start = subst IsAtDataStart (sym new.start) place;
          mark = omega arith;
          counted = omega arith;
          lost = sym (ap append_code new.live);
          round = refl;
          loaded = omega arith;
          up_to = omega arith;
          within = (let all = lines_end log_seen data_seen stands opened script plan followers start begins may in
              let low = lsn_le c.base (c.base + sum_over_actors bytes_of actors) (omega arith) in
              let base = begins.is_run.start in omega arith);
          small = may.fits.end;
          room = (let room = new.room in
              let pages : part.shape.pages ≡ opened.shape.pages = ap (λ (z : Shape). z.pages) new.shape in
              let size : part.shape.page_size ≡ opened.shape.page_size = ap (λ (z : Shape). z.page_size) new.shape in
              let all : part.shape.pages * part.shape.page_size ≡ opened.shape.pages * opened.shape.page_size =
              ap (λ (n : ℕ). n * part.shape.page_size) pages ∙ ap (λ (n : ℕ). opened.shape.pages * n) size in
              omega arith);
        }

    stands_there : StandsBeside seen c words actors part
    stands_there = record {
      seat = length front;
      archiver = new_reader 0 opened.start;
      at = its_seat;
      only = λ other r at kind. seat_is other r at ∙ ap c.reader_at (eqb-true r.number 0 kind)
          ∙ sym (seat_is (length front) (new_reader 0 opened.start) its_seat);
      start = new.start ∙ sym begins.is_run.start;
      limit = script_end opened.shape opened.start script;
      all = lines_end log_seen data_seen stands opened script plan followers start begins may;
      pace = pace;
      asked = (let flushed = flushed_is in
          let mark : part.marks.mark ≡ opened.start = ap (λ (z : _). z.mark) new.begun in
          let last : part.marks.asked ≡ opened.start = ap (λ (z : _). z.asked) new.begun in
          record { later = omega arith; most = omega arith });
    }

    has_come : HasCome log_seen data_seen seen gives run start.parts actors begins.from.runs part part
    has_come = record {
      beside = stands_there;
      same = record {
        shape = refl;
        start = refl;
        size = refl;
        later = omega arith;
        risen = λ failed. let z : None ≡ Some Failed = sym new.live ∙ failed in absurd (cc);
        calls = not_called gives part.dev part.failed;
      };
      archives = λ told pages begun wholes are. subst (λ (l : List Whole). PartArchives seen pages l part)
          (sym (no_wholes begins.from.runs.running.log_ghost.log wholes empty are)) begun;
    }

  -- SO IT HAS COME THERE.
  pub comes : (gives : A → Call → A → Type 0) (before : Option (Part A)) → is_some before ≡ plan.archive
      → IfSome before (IsNewArchive seen opened script)
      → HasComeTo log_seen data_seen seen gives run start.parts actors begins.from.runs before before
  comes gives None is new = none_archives (sym is)
  comes gives (Some part) is new = has_come (sym is) gives part new
