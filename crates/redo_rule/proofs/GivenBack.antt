-- The archiver gives the log part back with the texts that it has.
use Rattle.std.proofs.Common.{List, None, ap, arith, eqb-true, false, refl, subst, sym, true, ◌<◌, ◌∙◌, ◌≡◌}
use Rattle.model_core.specs.States as model
use Rattle.model_core.specs.ReaderProgram.{reader_filled, reader_fills}
use Rattle.model_core.specs.declared.ops.Answer.{Answer}
use Rattle.model_core.specs.declared.ops.Answer.TheVariants as answer
use Rattle.model_core.specs.declared.ops.Step.{Step}
use Rattle.model_core.specs.declared.steps.ReaderStep.{ReaderStep}
use Rattle.model_core.specs.declared.steps.ReaderStep.TheVariants as reader_step
use Rattle.model_core.specs.{after_of, archives, filled, Filling, Given, reader_program, ReaderState, step_of, took}
use Rattle.model_running.proofs.Archiving.{took_reader}
use Rattle.redo_drive.specs.{filling_of, HasTaken}
use Rattle.redo_drive.specs.declared.actor.Actor.TheVariants as own
use Rattle.redo_follow.specs.Following.{Following}
use Rattle.redo_rule.specs.Readers.{HasGivenBack}

module _ (r : ReaderState) where
  abbrev same : Filling
  same = record { block = r.block; texts = r.texts }

  stays : (st : ReaderStep) → ◌≡◌ {A = ReaderState} (reader_filled r same st) r
  stays reader_step.LoadFlushed = refl
  stays reader_step.TakeDevice = refl
  stays reader_step.GiveBroken = refl
  stays reader_step.ReadBlock = refl
  stays reader_step.GiveDevice = refl
  stays reader_step.Append = refl
  stays reader_step.StorePlace = refl
  stays reader_step.StoreFailed = refl
  stays reader_step.GiveFailed = refl
  stays reader_step.StoreLost = refl
  stays reader_step.Failed = refl

  fills_none : (st : ReaderStep) → archives r ≡ true → reader_fills r same st
  fills_none reader_step.GiveDevice kind = λ other. let z : true ≡ false = sym kind ∙ other in absurd (cc)
  fills_none _ kind = tt

pub archiver_gives : {R : Type 0} (stands : R → List Given → Type 0) (r w : ReaderState) (ends : Step) → archives r ≡ true
    → w ≡ after_of reader_program r (answer.Taken None) → ends ≡ step_of (model.Reader r) (answer.Taken None)
    → HasGivenBack stands (own.Archiver r) ends (own.Archiver w)
archiver_gives stands r w ends kind state ends_so =
    let a : Answer = answer.Taken None in
    let mine : ◌≡◌ {A = model.Actor} (filled (model.Reader r) (filling_of (model.Reader r) r.texts)) (model.Reader r) =
    ap model.Reader (stays r r.step) in
    record {
      taken = record {
        texts = r.texts;
        fills = fills_none r r.step kind;
        state = subst (λ (z : model.Actor). model.Reader w ≡ took z a) (sym mine)
            (ap model.Reader state ∙ sym (took_reader r a));
        ends = subst (λ (z : model.Actor). ends ≡ step_of z a) (sym mine) ends_so;
        same = tt;
        got = tt;
      };
      texts = λ archives. refl;
    }

-- a follower, which is no archiver, gives it back with whatever it hands on
pub follower_gives : {R : Type 0} (stands : R → List Given → Type 0) (f g : Following R) (ends : Step)
    → 0 < f.state.number → HasTaken stands (own.Follower f) (answer.Taken None) ends (own.Follower g)
    → HasGivenBack stands (own.Follower f) ends (own.Follower g)
follower_gives stands f g ends some taken = record {
  taken = taken;
  texts = λ archives. let none = eqb-true f.state.number 0 archives in absurd (omega arith);
}
