-- The next checkpoint of an opened store: what is read while it is written, and that a run can start once it stays.
use Rattle.std.proofs.Common.{◌≡◌, ◌≢◌, ◌≤◌, ◌<◌, ◌+◌, ◌==◌, ◌&&◌, ◌⊎◌, ℕ, inl, inr, Bool, true, false, cond, List, length, Option, Some, None, refl, sym, ap, subst, ◌∙◌, ⊎_elim, arith}
use Rattle.std.specs.Prelude.{nat_lt}
use Rattle.std.proofs.lemmas.Bool.{cases_Bool}
use Rattle.std.proofs.lemmas.Bool.Decides.{nat_tests}
use Rattle.model_base.specs.{field}
use Rattle.model_device.specs.{sector, settled}
use Rattle.model_log.specs.declared.head.Format.{Format}
use Rattle.model_log.specs.declared.head.Format.TheVariants.{One, Two, Three}
use Rattle.model_log.specs.declared.head.Head.{Head}
use Rattle.model_log.specs.declared.head.Head.TheVariants.{Good}
use Rattle.model_log.specs.declared.layout.Layout.{Layout}
use Rattle.model_log.specs.{checkpoint_text, fits_checksum, head_of, is_checkpoint, IsInRound, log_block, lsn_at, newer, newest_checkpoint, place_of, read_checkpoint, read_head, sector_of, header_block, run_layout}
use Rattle.model_log.proofs.CheckpointRound.{checkpoint-reads_back}
use Rattle.model_log.proofs.Formats.{format-of_run, other-layout, other-tails}
use Rattle.model_store.specs.{AreFoundIn, IsOrderly, IsReading, read_full, read_tail, taken, Reading}
use Rattle.model_store.specs.declared.tail.Tail.{Tail}
use Rattle.model_store.proofs.Taking.{taken-same, unread-full}
use Rattle.model_store.proofs.Heads.{head-sizes}
use Rattle.model_parts.specs.Changes.{IsPut, IsPutting, IsUnsealed}
use Rattle.model_parts.specs.Cleared.{IsCleared}
use Rattle.model_parts.specs.Held.{IsHeadPlace, other_place, IsFresh}
use Rattle.model_parts.specs.Opened.{found_layout, numbers_taken, ReadsOpened, start_block, start_of}
use Rattle.model_parts.specs.Rewritten.{IsRewriting, IsRewritten}
use Rattle.model_parts.proofs.Clearing.{block-sector, clearing-header, cleared-clearing, IsTailIn, ring-from, same-or_not}
use Rattle.model_parts.proofs.Dropping.{whole-scan}
use Rattle.model_parts.proofs.Newest.{at-one, both-places, checkpoint-place, IsOldOrAt, newest-at, next-other, other-next, up-to_newest}
use Rattle.model_parts.proofs.Next.{gone-from, none-taken, round-gone, tail-gone}
use Rattle.model_parts.proofs.Reread.{again-reads, clearing-found, has-next, HasNext, IsFoundAgain, IsLogRead, IsNextFound, log-read, next-reads, same-head_of, same-newest, tail-read}
use Rattle.model_parts.proofs.Unread.{unsealed-checkpoint}

-- what is rewritten is being rewritten
pub rewritten-rewriting : (opened : Reading) (old new : List ℕ) → IsRewritten opened new → IsRewriting opened old new
rewritten-rewriting opened old new is = record {
  long = is.long;
  each = λ p page at. record { kept = page; is_kept = is.each p page at; which = inr refl };
  old_copies = is.old_copies;
}

-- A HEADER BLOCK IS WRITTEN: the log blocks and the tail blocks stay.

abbrev pub OthersStay : ℕ → List ℕ → List ℕ → Type 0
OthersStay k old new = (j : ℕ) → j ≢ k → sector j new ≡ sector j old

pub put-block : (layout : Layout) (k b : ℕ) (old new : List ℕ) → k < layout.first → OthersStay k old new → log_block layout b new ≡ log_block layout b old
put-block layout k b old new below others =
    let from : layout.first ≤ sector_of layout b = ring-from layout b in
    block-sector layout b new ∙ others (sector_of layout b) (λ same. omega arith) ∙ sym (block-sector layout b old)

pub put-taken : (layout : Layout) (k lsn : ℕ) (old new : List ℕ) → 4 ≤ layout.first → k < 4 → OthersStay k old new → taken layout new lsn ≡ taken layout old lsn
put-taken layout k lsn old new first below others =
    taken-same layout old new lsn (put-block layout k lsn old new (omega arith) others) (others 4 (λ same. omega arith)) (others 5 (λ same. omega arith))

-- A CHECKPOINT stands in the place of its number.

place-tested : (a : Bool) (p w : ℕ) (b c d e : Bool) → (a && p == w && b && c && d && e) ≡ true → p ≡ w
place-tested a p w b c d e is = grind (arith, nat_tests)

when-some : (t : Bool) (found wanted : ℕ × ℕ) → cond t (Some found) None ≡ Some wanted → (t ≡ true) × (found ≡ wanted)
when-some true found wanted is = (refl, cc)
when-some false found wanted is = absurd cc

checkpoint-which : (which : ℕ) (layout : Layout) (bytes : List ℕ) (number ckpt : ℕ) → read_checkpoint which layout bytes ≡ Some (number, ckpt) → place_of number ≡ which
unfolding read_checkpoint
checkpoint-which which layout bytes number ckpt is =
    let parts = when-some (is_checkpoint which layout bytes) (field 8 0 bytes, field 8 8 bytes) (number, ckpt) is in
    let own : field 8 0 bytes ≡ number = ap (λ (pair : ℕ × ℕ). pair.0) parts.1 in
    sym (ap place_of own) ∙ place-tested (fits_checksum bytes) (place_of (field 8 0 bytes)) which _ _ _ _ parts.0

one-of_newer : (a b : Option (ℕ × ℕ)) (x : ℕ × ℕ) → newer a b ≡ Some x → (a ≡ Some x) ⊎ (b ≡ Some x)
one-of_newer None b x is = inr is
one-of_newer (Some m) None x is = inl is
one-of_newer (Some m) (Some n) x is =
    ⊎_elim (λ less. inr (sym (ap (λ t. cond t (Some n) (Some m)) less) ∙ is)) (λ not_less. inl (sym (ap (λ t. cond t (Some n) (Some m)) not_less) ∙ is)) (cases_Bool (nat_lt m.0 n.0))

pub newest-there : (layout : Layout) (image : List ℕ) (number ckpt : ℕ) → newest_checkpoint layout image ≡ Some (number, ckpt)
    → read_checkpoint (place_of number) layout (sector (place_of number) image) ≡ Some (number, ckpt)
newest-there layout image number ckpt newest =
    let At : ℕ → Option (ℕ × ℕ) = λ k. read_checkpoint k layout (sector k image) in
    ⊎_elim
    (λ first. (let place : place_of number ≡ 1 = checkpoint-which 1 layout (sector 1 image) number ckpt first in subst (λ (k : ℕ). At k ≡ Some (number, ckpt)) (sym place) first))
    (λ second. (let place : place_of number ≡ 3 = checkpoint-which 3 layout (sector 3 image) number ckpt second in subst (λ (k : ℕ). At k ≡ Some (number, ckpt)) (sym place) second))
    (one-of_newer (At 1) (At 3) (number, ckpt) newest)

-- the two places differ
pub places-apart : (number : ℕ) → other_place number ≢ place_of number
places-apart number same = ⊎_elim (λ one. omega (arith, one.0, one.1)) (λ three. omega (arith, three.0, three.1)) (both-places number)

none-some : (found : Option (ℕ × ℕ)) (pair : ℕ × ℕ) → found ≡ None → found ≡ Some pair → ⊥
none-some found pair none some = cc

-- where nothing is read of the next checkpoint's place, the newest one stays
pub newest-unsealed : (layout : Layout) (old new : List ℕ) (number ckpt : ℕ) → newest_checkpoint layout old ≡ Some (number, ckpt) → OthersStay (place_of (number + 1)) old new
    → IsUnsealed (sector (place_of (number + 1)) new) → newest_checkpoint layout new ≡ Some (number, ckpt)
newest-unsealed layout old new number ckpt newest others broken =
    let At : ℕ → Option (ℕ × ℕ) = λ k. read_checkpoint k layout (sector k new) in
    let next : place_of (number + 1) ≡ other_place number = next-other number in
    let own : At (place_of number) ≡ Some (number, ckpt) =
    ap (read_checkpoint (place_of number) layout) (others (place_of number) (λ same. places-apart number (sym next ∙ sym same))) ∙ newest-there layout old number ckpt newest in
    let none : At (other_place number) ≡ None = sym (ap At next) ∙ unsealed-checkpoint (place_of (number + 1)) layout (sector (place_of (number + 1)) new) broken in
    at-one (newest_checkpoint layout new) number ckpt
    (newest-at At number number number ckpt (omega arith) own (λ pair is. absurd (none-some (At (other_place number)) pair none is)))

-- where the next one stands there, it is the newest
pub newest-put : (layout : Layout) (old new : List ℕ) (number ckpt lsn : ℕ) → newest_checkpoint layout old ≡ Some (number, ckpt) → OthersStay (place_of (number + 1)) old new
    → read_checkpoint (place_of (number + 1)) layout (sector (place_of (number + 1)) new) ≡ Some (number + 1, lsn) → newest_checkpoint layout new ≡ Some (number + 1, lsn)
newest-put layout old new number ckpt lsn newest others own =
    let At : ℕ → Option (ℕ × ℕ) = λ k. read_checkpoint k layout (sector k new) in
    let beside : (pair : ℕ × ℕ) → At (other_place (number + 1)) ≡ Some pair → IsOldOrAt (number + 1) (number + 1) lsn pair = λ pair is.
    let k : ℕ = place_of number in
    let same : sector k new ≡ sector k old = others k (λ own_place. places-apart number (sym (next-other number) ∙ sym own_place)) in
    let there : read_checkpoint k layout (sector k old) ≡ Some pair = sym (ap (read_checkpoint k layout) same) ∙ sym (ap At (other-next number)) ∙ is in
    inl (let most : pair.0 ≤ number = up-to_newest (λ j. read_checkpoint j layout (sector j old)) number number ckpt pair newest there in omega arith) in
    at-one (newest_checkpoint layout new) (number + 1) lsn (newest-at At (number + 1) (number + 1) (number + 1) lsn (omega arith) own beside)

-- opening makes a checkpoint at least
pub some-taken : (format : Format) → 1 ≤ numbers_taken format
some-taken One = omega arith
some-taken Two = omega arith
some-taken Three = omega arith

-- THE CLEARED LOG.

pub cleared-found : (opened : Reading) (log_bytes data_bytes old_log : List ℕ) (tail : Option Tail) → IsReading log_bytes data_bytes opened
    → AreFoundIn (found_layout opened) log_bytes opened.ckpt opened.views tail → IsCleared (found_layout opened) opened.ckpt (start_of opened) tail log_bytes old_log
    → IsFoundAgain opened old_log
cleared-found opened log_bytes data_bytes old_log tail reads found cleared =
    let log : IsLogRead log_bytes opened = log-read log_bytes data_bytes opened reads in
    clearing-found opened log_bytes data_bytes old_log tail reads found (cleared-clearing (found_layout opened) opened.ckpt (start_of opened) tail log_bytes old_log log.log cleared)

cleared-none : (opened : Reading) (log_bytes data_bytes old_log : List ℕ) (tail : Option Tail) → IsReading log_bytes data_bytes opened
    → AreFoundIn (found_layout opened) log_bytes opened.ckpt opened.views tail → IsCleared (found_layout opened) opened.ckpt (start_of opened) tail log_bytes old_log
    → taken (found_layout opened) old_log (start_block opened) ≡ None
cleared-none opened log_bytes data_bytes old_log tail reads found cleared =
    let log : IsLogRead log_bytes opened = log-read log_bytes data_bytes opened reads in
    let is : IsTailIn (found_layout opened) opened.ckpt tail = tail-read log_bytes data_bytes opened tail reads found in
    none-taken opened.format opened.shape (found_layout opened).blocks opened.ckpt (start_of opened) opened.views opened.wholes opened.end tail log_bytes old_log log.log is log.among
    reads.scan.scan found cleared

-- a log that is found is found again while the place of the next checkpoint is written, as long as that doesn't stand there
put-found : (opened : Reading) (old new : List ℕ) → 4 ≤ (found_layout opened).first → IsFoundAgain opened old → OthersStay (place_of (opened.number + 1)) old new → length new ≡ length old
    → (sector (place_of (opened.number + 1)) new ≡ sector (place_of (opened.number + 1)) old) ⊎ IsUnsealed (sector (place_of (opened.number + 1)) new) → IsFoundAgain opened new
put-found opened old new first found others long place =
    let layout : Layout = found_layout opened in
    let k : ℕ = place_of (opened.number + 1) in
    let at = checkpoint-place (opened.number + 1) in
    let same : (lsn : ℕ) → taken layout new lsn ≡ taken layout old lsn = λ lsn. put-taken layout k lsn old new first at.1 others in
    record {
      long = omega (arith, found.long);
      head = same-head_of old new (others 0 (λ zero. omega (arith, at.0))) (others 2 (λ two. at.2 (sym two))) ∙ found.head;
      newest = ⊎_elim
          (λ stays. (let each : (j : ℕ) → sector j new ≡ sector j old = λ j. ⊎_elim (λ here. subst (λ (i : ℕ). sector i new ≡ sector i old) (sym here) stays) (others j) (same-or_not j k) in
          same-newest layout old new (each 1) (each 3) ∙ found.newest))
          (λ broken. newest-unsealed layout old new opened.number opened.ckpt found.newest others broken) place;
      scan = record {
        views = found.scan.views;
        scan = whole-scan opened.shape layout.blocks opened.ckpt found.scan.views opened.wholes opened.end (taken layout old) (taken layout new) found.scan.scan
            (λ i below. same (lsn_at opened.ckpt i)) (λ less. inl (same (lsn_at opened.ckpt (length found.scan.views))));
      };
    }

-- and where it stands there, the log is read from it on
next-put : (opened : Reading) (log_bytes data_bytes old new : List ℕ) → IsOrderly log_bytes data_bytes opened → IsFoundAgain opened old
    → taken (found_layout opened) old (start_block opened) ≡ None → OthersStay (place_of (opened.number + 1)) old new → length new ≡ length old
    → sector (place_of (opened.number + 1)) new ≡ checkpoint_text (opened.number + 1) (start_block opened) (found_layout opened) → IsNextFound opened opened.format (opened.number + 1) new
next-put opened log_bytes data_bytes old new orderly found none others long text =
    let layout : Layout = found_layout opened in
    let log : IsLogRead log_bytes opened = log-read log_bytes data_bytes opened orderly.reads in
    let next : HasNext opened = has-next log_bytes data_bytes opened orderly in
    let k : ℕ = place_of (opened.number + 1) in
    let at = checkpoint-place (opened.number + 1) in
    record {
      long = omega (arith, found.long);
      head = same-head_of old new (others 0 (λ zero. omega (arith, at.0))) (others 2 (λ two. at.2 (sym two))) ∙ found.head;
      later = omega arith;
      up_to = (let some = some-taken opened.format in omega arith);
      newest = newest-put layout old new opened.number opened.ckpt (start_block opened) found.newest others
          (ap (read_checkpoint k layout) text ∙ checkpoint-reads_back (opened.number + 1) (start_block opened) layout log.log.is_layout (omega (arith, next.number)) next.started next.small next.aligned);
      none = put-taken layout k (start_block opened) old new log.log.is_layout.after_header at.1 others ∙ none;
    }

-- WHILE THE NEXT CHECKPOINT IS WRITTEN on the log that was cleared.
pub marking-reads : (opened : Reading) (log_bytes data_bytes old_log new_log new_data : List ℕ) (tail : Option Tail) → IsOrderly log_bytes data_bytes opened
    → AreFoundIn (found_layout opened) log_bytes opened.ckpt opened.views tail → IsCleared (found_layout opened) opened.ckpt (start_of opened) tail log_bytes old_log
    → IsPutting (place_of (opened.number + 1)) (checkpoint_text (opened.number + 1) (start_block opened) (found_layout opened)) old_log new_log
    → IsRewritten opened new_data → ReadsOpened opened new_log new_data
marking-reads opened log_bytes data_bytes old_log new_log new_data tail orderly found cleared putting rewritten =
    let log : IsLogRead log_bytes opened = log-read log_bytes data_bytes opened orderly.reads in
    let before : IsFoundAgain opened old_log = cleared-found opened log_bytes data_bytes old_log tail orderly.reads found cleared in
    let first : 4 ≤ (found_layout opened).first = log.log.is_layout.after_header in
    let old : ((sector (place_of (opened.number + 1)) new_log ≡ sector (place_of (opened.number + 1)) old_log) ⊎ IsUnsealed (sector (place_of (opened.number + 1)) new_log)) → ReadsOpened opened new_log new_data = λ place.
    again-reads opened log_bytes data_bytes new_log new_data orderly.reads (put-found opened old_log new_log first before putting.others putting.same_length place)
    (rewritten-rewriting opened data_bytes new_data rewritten) in
    ⊎_elim (λ same. old (inl same)) (λ rest. ⊎_elim (λ broken. old (inr broken))
    (λ text. next-reads opened opened.format (opened.number + 1) log_bytes data_bytes new_log new_data orderly.reads
    (next-put opened log_bytes data_bytes old_log new_log orderly before (cleared-none opened log_bytes data_bytes old_log tail orderly.reads found cleared) putting.others putting.same_length text) rewritten) rest)
    putting.at

-- A RUN CAN START on the device once the checkpoint stays.

either-same : (t : Bool) (x : Head) → cond t x x ≡ x
either-same true x = refl
either-same false x = refl

-- two header blocks that are alike say the same
pub alike-head : (bytes : List ℕ) → sector 2 bytes ≡ sector 0 bytes → head_of bytes ≡ read_head (sector 0 bytes)
alike-head bytes alike =
    ap (λ (second : List ℕ). cond (fits_checksum (sector 0 bytes)) (read_head (sector 0 bytes)) (read_head second)) alike
    ∙ either-same (fits_checksum (sector 0 bytes)) (read_head (sector 0 bytes))

-- the file header stands in both its blocks once the checkpoint stays
pub marked-heads : (opened : Reading) (log_bytes data_bytes old_log new_log : List ℕ) (tail : Option Tail) → IsReading log_bytes data_bytes opened
    → AreFoundIn (found_layout opened) log_bytes opened.ckpt opened.views tail → sector 2 log_bytes ≡ sector 0 log_bytes
    → IsCleared (found_layout opened) opened.ckpt (start_of opened) tail log_bytes old_log → OthersStay (place_of (opened.number + 1)) old_log new_log
    → (j : ℕ) → IsHeadPlace j → read_head (sector j new_log) ≡ Good opened.format opened.shape
marked-heads opened log_bytes data_bytes old_log new_log tail reads found alike cleared others j place =
    let layout : Layout = found_layout opened in
    let log : IsLogRead log_bytes opened = log-read log_bytes data_bytes opened reads in
    let is : IsTailIn layout opened.ckpt tail = tail-read log_bytes data_bytes opened tail reads found in
    let at = checkpoint-place (opened.number + 1) in
    let header : (i : ℕ) → i < 4 → sector i old_log ≡ sector i log_bytes = λ i below.
    clearing-header layout opened.ckpt (start_of opened) tail log_bytes old_log i log.log is below (cleared-clearing layout opened.ckpt (start_of opened) tail log_bytes old_log log.log cleared) in
    let head : read_head (sector 0 log_bytes) ≡ Good opened.format opened.shape = sym (alike-head log_bytes alike) ∙ reads.scan.devices.head.head in
    let zero : sector 0 new_log ≡ sector 0 log_bytes = others 0 (λ same. omega (arith, at.0)) ∙ header 0 (omega arith) in
    let two : sector 2 new_log ≡ sector 0 log_bytes = others 2 (λ same. at.2 (sym same)) ∙ header 2 (omega arith) ∙ alike in
    ⊎_elim (λ e. ap (λ (i : ℕ). read_head (sector i new_log)) e ∙ ap read_head zero ∙ head) (λ o. ap (λ (i : ℕ). read_head (sector i new_log)) o ∙ ap read_head two ∙ head) place

pub marked-next : (opened : Reading) (log_bytes data_bytes old_log new_log : List ℕ) (tail : Option Tail) → IsOrderly log_bytes data_bytes opened
    → AreFoundIn (found_layout opened) log_bytes opened.ckpt opened.views tail
    → IsCleared (found_layout opened) opened.ckpt (start_of opened) tail log_bytes old_log
    → IsPut (place_of (opened.number + 1)) (checkpoint_text (opened.number + 1) (start_block opened) (found_layout opened)) old_log new_log
    → IsNextFound opened opened.format (opened.number + 1) new_log
marked-next opened log_bytes data_bytes old_log new_log tail orderly found cleared put =
    next-put opened log_bytes data_bytes old_log new_log orderly (cleared-found opened log_bytes data_bytes old_log tail orderly.reads found cleared)
    (cleared-none opened log_bytes data_bytes old_log tail orderly.reads found cleared) put.others put.same_length put.at

pub marked-fresh : (opened : Reading) (log_bytes data_bytes old_log new_log : List ℕ) (tail : Option Tail) → IsOrderly log_bytes data_bytes opened
    → AreFoundIn (found_layout opened) log_bytes opened.ckpt opened.views tail → sector 2 log_bytes ≡ sector 0 log_bytes → opened.format ≢ One
    → IsCleared (found_layout opened) opened.ckpt (start_of opened) tail log_bytes old_log
    → IsPut (place_of (opened.number + 1)) (checkpoint_text (opened.number + 1) (start_block opened) (found_layout opened)) old_log new_log
    → IsFresh opened.shape (start_of opened) (opened.number + 1) (settled new_log)
marked-fresh opened log_bytes data_bytes old_log new_log tail orderly found alike format cleared put =
    let layout : Layout = found_layout opened in
    let log : IsLogRead log_bytes opened = log-read log_bytes data_bytes opened orderly.reads in
    let is : IsTailIn layout opened.ckpt tail = tail-read log_bytes data_bytes opened tail orderly.reads found in
    let k : ℕ = place_of (opened.number + 1) in
    let at = checkpoint-place (opened.number + 1) in
    let first : 4 ≤ layout.first = log.log.is_layout.after_header in
    let run : layout ≡ run_layout opened.shape = other-layout opened.format opened.shape format in
    let sizes = head-sizes (header_block 0 log_bytes) (header_block 2 log_bytes) opened.format opened.shape orderly.reads.scan.devices.head.head in
    let next : IsNextFound opened opened.format (opened.number + 1) new_log = marked-next opened log_bytes data_bytes old_log new_log tail orderly found cleared put in
    let unread : (b : ℕ) → IsInRound layout (start_block opened) b → read_full b (sector (sector_of layout b) new_log) ≡ None = λ b in_round.
    ap (read_full b) (sym (block-sector layout b new_log) ∙ put-block layout k b old_log new_log (omega (arith, at.1)) put.others)
    ∙ unread-full b (log_block layout b old_log)
    (round-gone layout opened.ckpt (start_of opened) old_log log.log
    (gone-from opened.format opened.shape layout.blocks opened.ckpt (start_of opened) opened.views opened.wholes opened.end tail log_bytes old_log log.log is log.among orderly.reads.scan.scan found cleared) b in_round) in
    record {
      long = next.long;
      heads = λ j place. marked-heads opened log_bytes data_bytes old_log new_log tail orderly.reads found alike cleared put.others j place ∙ ap (λ (f : Format). Good f opened.shape) (format-of_run opened.format opened.shape sizes format);
      nothing_pending = refl;
      newest = subst (λ (l : Layout). newest_checkpoint l new_log ≡ Some (opened.number + 1, start_block opened)) run next.newest;
      unread = subst (λ (l : Layout). (b : ℕ) → IsInRound l (start_block opened) b → read_full b (sector (sector_of l b) new_log) ≡ None) run unread;
      no_tail = λ j place b aligned from. (
          let four : 4 ≤ j = ⊎_elim (λ e. omega arith) (λ o. omega arith) place in
          ap (read_tail b) (put.others j (λ same. omega (arith, at.1)))
          ∙ tail-gone layout opened.ckpt (start_of opened) j b opened.views tail log_bytes old_log (other-tails opened.format opened.shape format) log.log is found cleared place aligned from);
    }
