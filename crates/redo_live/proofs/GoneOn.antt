-- A user goes on through its commits and its reads.
use Rattle.std.proofs.Common.{List, [], ap, append-nil, append_assoc, arith, refl, subst, sym, ℕ, ◌++◌, ◌∙◌, ◌≡◌}
use Rattle.model_core.specs.{Line}
use Rattle.model_reads.specs.declared.read.ReadEnd.{ReadEnd}
use Rattle.model_script.specs.declared.item.Item.{Item}
use Rattle.redo_live.specs.Committing.{IsRefusedSo}
use Rattle.redo_live.specs.Holding.{reads_of, state_of}
use Rattle.redo_live.specs.Later.{HasGoneOn}
use Rattle.redo_live.specs.Reading.{IsUnreadFor}
use Rattle.redo_live.specs.declared.refused.Refused.{Refused}
use Rattle.redo_live.specs.declared.refused.Refused.TheVariants.{Device, Full, LogOnly, NoMemory, Unfit}
use Rattle.redo_live.specs.declared.store.Store.{Store}
use Rattle.redo_live.specs.declared.user.User.{User}

module _ {L D : Type 0} where
  -- who is as it was but for more reads
  pub goes_by : (old new : User L D) (more : List ReadEnd) → state_of new ≡ state_of old
      → reads_of new ≡ reads_of old ++ more → HasGoneOn old new
  goes_by old new more same reads = record {
    number = ap (λ s. s.user) same;
    lines = ([], ap (λ s. s.lines) same ∙ sym (append-nil (state_of old).lines));
    starts = ([], ap (λ s. s.starts) same ∙ sym (append-nil (state_of old).starts));
    answered = (let e = ap (λ s. s.k) same in omega arith);
    failed = λ _. same;
    reads = (more, reads);
  }

  pub goes_nowhere : (user : User L D) → HasGoneOn user user
  goes_nowhere user = goes_by user user [] refl (sym (append-nil (reads_of user)))

  pub goes_further : (old new last : User L D) → HasGoneOn old new → HasGoneOn new last → HasGoneOn old last
  goes_further old new last first then = record {
    number = then.number ∙ first.number;
    lines = (
      first.lines.0 ++ then.lines.0,
      then.lines.1 ∙ ap (λ (l : List Line). l ++ then.lines.0) first.lines.1
          ∙ append_assoc (state_of old).lines first.lines.0 then.lines.0,
    );
    starts = (
      first.starts.0 ++ then.starts.0,
      then.starts.1 ∙ ap (λ (l : List ℕ). l ++ then.starts.0) first.starts.1
          ∙ append_assoc (state_of old).starts first.starts.0 then.starts.0,
    );
    answered = (let a = first.answered in let b = then.answered in omega arith);
    failed = λ step. let same = first.failed step in then.failed (ap (λ s. s.step) same ∙ step) ∙ same;
    reads = (
      first.reads.0 ++ then.reads.0,
      then.reads.1 ∙ ap (λ (l : List ReadEnd). l ++ then.reads.0) first.reads.1
          ∙ append_assoc (reads_of old) first.reads.0 then.reads.0,
    );
  }

  -- one that is as it was has gone on
  stays : (old new : User L D) → new ≡ old → HasGoneOn old new
  stays old new same = subst (λ (z : User L D). HasGoneOn old z) (sym same) (goes_nowhere old)

  -- so has one whose commit was refused,
  pub refused_goes : (store : Store L D) (old new : User L D) (mode : ℕ) (items : List Item) (refused : Refused)
      → IsRefusedSo store old mode items refused new → HasGoneOn old new
  refused_goes store old new mode items (Device code) so = so.goes_on
  refused_goes store old new mode items (Unfit misfit) so = stays old new so.0
  refused_goes store old new mode items Full so = stays old new so.0
  refused_goes store old new mode items NoMemory so = stays old new so.0
  refused_goes store old new mode items LogOnly so = absurd so.2

  -- or whose page wasn't read
  pub unread_goes : (store : Store L D) (old new : User L D) (refused : Refused) → IsUnreadFor store old refused new
      → HasGoneOn old new
  unread_goes store old new (Device code) so = so.2.goes_on
  unread_goes store old new LogOnly so = stays old new so.1
  unread_goes store old new (Unfit misfit) so = absurd so
  unread_goes store old new Full so = absurd so
  unread_goes store old new NoMemory so = absurd so
