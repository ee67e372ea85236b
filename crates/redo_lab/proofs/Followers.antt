-- What is told of the followers of a run, by what the drive leaves of them.
use Rattle.std.proofs.Common.{List, [], ap, arith, length, refl, slice_get, Some, subst, suc, sym, zero, ℕ, ◌%◌, ◌+◌, ◌^◌, ◌∙◌, ◌∷◌, ◌≡◌, ◌≤◌}
use Rattle.std.proofs.lemmas.Slice.Zip.{AllZip-long}
use Rattle.std.specs.List.{AllByRecursion, AllZip}
use lib.ListN.{get_elem?}
use mathlib.Core.Option.{some}
use Rattle.model_base.specs.{crc_of}
use Rattle.model_core.specs.{Given, new_reader, ReaderState}
use Rattle.model_log.specs.{IsAtDataStart}
use Rattle.model_log.proofs.Runs.{data-start}
use Rattle.model_report.proofs.Groups.{run-from}
use Rattle.model_report.specs.{IsLegal, wholes_of}
use Rattle.model_report.specs.declared.entry.Followed.{Followed}
use Rattle.model_script.specs.declared.script.ScriptLine.{ScriptLine}
use Rattle.model_theorem.specs.{Ran}
use Rattle.redo_drive.specs.Drive.{closed_run}
use Rattle.redo_drive.specs.Followed.{given_upto, HasFollowed, HasSameNumber}
use Rattle.redo_drive.specs.{followers_in, AreNewFollowers}
use Rattle.redo_drive.specs.declared.actor.Actor.{Actor}
use Rattle.redo_drive.specs.declared.closed.Closed.{Closed}
use Rattle.redo_drive.specs.declared.seating.TheConstants.{FIRST_FOLLOWER}
use Rattle.redo_follow.specs.Following.{Following}
use Rattle.redo_follow.specs.{HasTally, Kept}
use Rattle.redo_store.specs.declared.opened.Opened.{Opened}
use Rattle.redo_lab.proofs.Fronts.{AreInFront, in-front}
use Rattle.redo_lab.specs.Call.{IsToldOf}
use Rattle.redo_lab.specs.Begun.{AreUntold}
use Rattle.redo_lab.specs.Told.{IsFollowed}

-- there are as many as there were
pub as-many : (count : ℕ) (before after : List (Following Kept)) (follows : List Followed) → AreUntold count before
    → AllZip HasSameNumber before after → AllZip IsToldOf after follows → length follows ≡ count
as-many count before after follows untold same told =
    AllZip-long IsToldOf after follows told ∙ AllZip-long HasSameNumber before after same ∙ untold.count_is

-- and there is room for what is told of them
pub room-for : (count room : ℕ) (before : List (Following Kept)) (actors : List (Actor Kept))
    → AreUntold count before → AllZip HasSameNumber before (followers_in actors) → count ≤ room
    → length (followers_in actors) ≤ room
room-for count room before actors untold same enough =
    let long : length (followers_in actors) ≡ length before = AllZip-long HasSameNumber before (followers_in actors) same in
    omega (arith, long, untold.count_is, enough)

-- which is told as they are seen
pub told-seen : (room : ℕ) (seen actors : List (Actor Kept)) (follows : List Followed) → seen ≡ actors
    → (length (followers_in seen) ≤ room → AllZip IsToldOf (followers_in seen) follows)
    → length (followers_in actors) ≤ room → AllZip IsToldOf (followers_in actors) follows
told-seen room seen actors follows are =
    subst (λ (l : List (Actor Kept)). (length (followers_in l) ≤ room → AllZip IsToldOf (followers_in l) follows)
    → length (followers_in actors) ≤ room → AllZip IsToldOf (followers_in actors) follows) (sym are) (λ told. told)

-- each has the number that it was made with
numbered-from : (start number : ℕ) (before after : List (Following Kept)) (follows : List Followed)
    → ((i : ℕ) (f : Following Kept) → get_elem? before i ≡ some f → f.state ≡ new_reader (number + i) start)
    → AllZip HasSameNumber before after → AllZip IsToldOf after follows
    → (i : ℕ) (followed : Followed) → slice_get follows i ≡ Some followed → followed.number ≡ number + i
numbered-from start number [] [] [] new same told i followed at = absurd (cc)
numbered-from start number [] [] (one ∷ follows) new same told i followed at = absurd told
numbered-from start number [] (g ∷ after) follows new same told i followed at = absurd same
numbered-from start number (f ∷ before) [] follows new same told i followed at = absurd same
numbered-from start number (f ∷ before) (g ∷ after) [] new same told i followed at = absurd told
numbered-from start number (f ∷ before) (g ∷ after) (one ∷ follows) new same told zero followed at =
    let is : one ≡ followed = cc in
    subst (λ (x : Followed). x.number ≡ number + 0) is
    (told.0.number ∙ same.0 ∙ ap (λ (r : ReaderState). r.number) (new 0 f refl))
numbered-from start number (f ∷ before) (g ∷ after) (one ∷ follows) new same told (suc i) followed at =
    let moved : number + 1 + i ≡ number + suc i = omega arith in
    numbered-from start (number + 1) before after follows
    (λ j h there. new (suc j) h there
    ∙ ap (λ (n : ℕ). new_reader n start) (let e : number + suc j ≡ number + 1 + j = omega arith in e))
    same.1 told.1 i followed at
    ∙ moved

pub numbered-so : (start : ℕ) (before after : List (Following Kept)) (follows : List Followed)
    → AreNewFollowers start before → AllZip HasSameNumber before after → AllZip IsToldOf after follows
    → (i : ℕ) (followed : Followed) → slice_get follows i ≡ Some followed → followed.number ≡ i + 1
numbered-so start before after follows new same told i followed at =
    let is : followed.number ≡ FIRST_FOLLOWER + i =
    numbered-from start FIRST_FOLLOWER before after follows new.each same told i followed at in
    omega (arith, is)

module _ {L D : Type 0} (opened : Opened L D) (script : List ScriptLine) (closed : Closed L D)
    (legal : IsLegal script opened.shape.space opened.start closed.marks closed.history)
    (place : IsAtDataStart opened.start) where
  abbrev run : Ran
  run = closed_run opened.start closed

  abbrev space : ℕ
  space = opened.shape.space

  -- WHAT IS TOLD OF ONE that got nothing before the run
  followed-so : (before after : Following Kept) (followed : Followed)
      → HasFollowed HasTally opened script closed before after → HasTally before.receiver []
      → IsToldOf after followed → IsFollowed script space run followed
  followed-so before after followed has untold told =
      let upto : ℕ = after.state.place in
      let given : List Given = given_upto upto (wholes_of script space closed.history) in
      let got : HasTally after.receiver given = has.got [] untold in
      let front : AreInFront script space upto closed.history =
      in-front script space upto opened.start closed.history (data-start opened.start place)
      (run-from script space opened.start closed.marks closed.history legal) in
      let at : upto ≡ followed.lsn = sym told.lsn in
      let all : IsFollowed script space run (record followed { lsn = upto }) = record {
        place = has.place;
        flushed = has.flushed;
        checkpoint = (let made = has.made in let stored = has.stored in omega arith);
        count = told.count ∙ got.0 ∙ ap (λ (n : ℕ). n % 2 ^ 64) front.count;
        crc = told.crc given got ∙ ap crc_of front.texts;
      } in
      subst (λ (lsn : ℕ). IsFollowed script space run (record followed { lsn = lsn })) at all

  all-followed : (before after : List (Following Kept)) (follows : List Followed)
      → AllZip (HasFollowed HasTally opened script closed) before after
      → ((i : ℕ) (f : Following Kept) → get_elem? before i ≡ some f → HasTally f.receiver [])
      → AllZip IsToldOf after follows → AllByRecursion (IsFollowed script space run) follows
  all-followed [] [] [] has untold told = tt
  all-followed [] [] (one ∷ follows) has untold told = absurd told
  all-followed [] (g ∷ after) follows has untold told = absurd has
  all-followed (f ∷ before) [] follows has untold told = absurd has
  all-followed (f ∷ before) (g ∷ after) [] has untold told = absurd told
  all-followed (f ∷ before) (g ∷ after) (one ∷ follows) has untold told = (
    followed-so f g one has.0 (untold 0 f refl) told.0,
    all-followed before after follows has.1 (λ i h there. untold (suc i) h there) told.1,
  )

  -- and of all
  pub followed-all : (count : ℕ) (before after : List (Following Kept)) (follows : List Followed)
      → AllZip (HasFollowed HasTally opened script closed) before after → AreUntold count before
      → AllZip IsToldOf after follows → AllByRecursion (IsFollowed script space run) follows
  followed-all count before after follows has untold told = all-followed before after follows has untold.none told
