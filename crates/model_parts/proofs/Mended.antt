-- A store whose places were repaired is in order, and is read as it was.
use Rattle.std.proofs.Common.{◌≡◌, ◌≢◌, ◌<◌, ℕ, List, Option, Some, None, refl, sym, ap, ◌∙◌, arith}
use Rattle.model_base.specs.declared.shape.Shape.{Shape}
use Rattle.model_page.specs.{place_bytes, place_lsn, slot_bytes, user_part}
use Rattle.model_page.specs.declared.content.Content.{Content}
use Rattle.model_parts.proofs.Kept.{same-copy}
use Rattle.model_store.specs.{IsNoNewerCopy, IsOrderly, IsReadPage, Reading}
use Rattle.model_parts.specs.Repair.{AreRepaired, AreHeld}
use Rattle.model_parts.proofs.Pages.{page-below}

pub repaired-orderly : (log_bytes old new : List ℕ) (opened : Reading) → IsOrderly log_bytes old opened → AreRepaired opened.shape old new → IsOrderly log_bytes new opened
repaired-orderly log_bytes old new opened orderly is = record {
  reads = record {
    scan = record {
      devices = record {
        head = orderly.reads.scan.devices.head;
        log_long = orderly.reads.scan.devices.log_long;
        data_long = omega (arith, is.same_length, orderly.reads.scan.devices.data_long);
      };
      checkpoint = orderly.reads.scan.checkpoint;
      scan = orderly.reads.scan.scan;
    };
    count = orderly.reads.count;
    each = λ p page at. (
        let read : IsReadPage opened.shape old opened.wholes opened.end p page = orderly.reads.each p page at in
        let below : p < opened.shape.pages = omega (arith, page-below opened.pages p page at, orderly.reads.count) in
        record { kept = read.kept; is_kept = (is.same p read.kept below).0 read.is_kept; not_ahead = read.not_ahead; replay = read.replay });
  };
  copies = λ p slot lsn page below at copy. (
      let same : slot_bytes opened.shape slot new ≡ slot_bytes opened.shape slot old = is.slots slot below in
      let older : IsNoNewerCopy opened.shape old slot lsn page = orderly.copies p slot lsn page below at (sym (same-copy opened.shape old new p slot same) ∙ copy) in
      record { no_newer = older.no_newer; same = λ lsn_is. ap user_part same ∙ older.same lsn_is });
  numbers_left = orderly.numbers_left;
  lsns_left = orderly.lsns_left;
}

-- WHAT THE PLACES HOLD.

abbrev lsn_or : Option ℕ → ℕ
lsn_or None = 0
lsn_or (Some lsn) = lsn

-- the content of a place that passes
abbrev pub held_at : Shape → List ℕ → ℕ → Content
held_at shape image p = record { lsn = lsn_or (place_lsn shape image p); user = user_part (place_bytes shape p image) }

some-lsn : (o : Option ℕ) → o ≢ None → o ≡ Some (lsn_or o)
some-lsn None some = absurd (some refl)
some-lsn (Some lsn) some = refl

pub repaired-held : (shape : Shape) (old new : List ℕ) → AreRepaired shape old new → AreHeld shape new (held_at shape new)
repaired-held shape old new is p below = record { passes = some-lsn (place_lsn shape new p) (is.pass p below); user = refl }
