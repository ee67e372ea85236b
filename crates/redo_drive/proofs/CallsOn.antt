-- What calls were made of both devices, in one turn and then in others.
use Rattle.std.proofs.Common.{None, Option, Some, refl, subst, sym, ◌∙◌, ◌≡◌}
use Rattle.redo_disk.proofs.Made.{ends_then, none_ends}
use Rattle.redo_disk.specs.{Call, EndWith, MakesCalls}
use Rattle.redo_disk.specs.declared.error.DevError.{DevError}
use Rattle.redo_drive.specs.Calls.{CallOnBoth, CallsOn}
use Rattle.redo_drive.specs.declared.parts.Parts.{Parts}

module _ {D : Type 0} (gives : D → Call → D → Type 0) where
  pub not_called : (device : D) (failed : Option DevError) → CallsOn gives device failed device failed
  not_called device failed = record {
    live = λ none. subst (λ (e : Option DevError). MakesCalls gives device device (EndWith e)) (sym none) (none_ends gives device);
    over = λ some. (refl, refl);
  }

  pub calls_then : (old middle new : D) (f g h : Option DevError) → CallsOn gives old f middle g → CallsOn gives middle g new h → CallsOn gives old f new h
  calls_then old middle new f g h front back = record {
    live = λ none. by g (front.live none) back.live back.over;
    over = λ some.
        let stood = front.over some in
        let stands = back.over (λ none. some (sym stood.1 ∙ none)) in
        (stands.0 ∙ stood.0, stands.1 ∙ stood.1);
  }
    where
      by : (e : Option DevError) → MakesCalls gives old middle (EndWith e) → (e ≡ None → MakesCalls gives middle new (EndWith h)) → ((e ≡ None → ⊥) → (new ≡ middle) × (h ≡ e)) → MakesCalls gives old new (EndWith h)
      by None made live over = ends_then made (live refl)
      by (Some error) made live over =
          let stands = over (λ none. cc) in
          subst (λ (d : D). MakesCalls gives old d (EndWith h)) (sym stands.0) (subst (λ (e : Option DevError). MakesCalls gives old middle (EndWith e)) (sym stands.1) made)

module _ {L D : Type 0} (log_gives : L → Call → L → Type 0) (data_gives : D → Call → D → Type 0) where
  pub none_called : (parts : Parts L D) → CallOnBoth log_gives data_gives parts parts
  none_called parts = record {
    log = not_called log_gives parts.log.dev parts.log.failed;
    data_part = not_called data_gives parts.store.dev parts.store.failed;
  }

  pub both_then : (old middle new : Parts L D) → CallOnBoth log_gives data_gives old middle → CallOnBoth log_gives data_gives middle new → CallOnBoth log_gives data_gives old new
  both_then old middle new front back = record {
    log = calls_then log_gives old.log.dev middle.log.dev new.log.dev old.log.failed middle.log.failed new.log.failed front.log back.log;
    data_part = calls_then data_gives old.store.dev middle.store.dev new.store.dev old.store.failed middle.store.failed new.store.failed front.data_part back.data_part;
  }
