-- What reading a group gives: one record alone, or several up to the end mark.
use Rattle.std.proofs.Common.{◌≡◌, ◌≢◌, ℕ, ◌-◌, ◌<◌, ◌≤◌, List, [], ◌∷◌, ◌++◌, length, get_or, take, drop, length-append, refl, sym, ap, subst, ◌∙◌, append_assoc, arith}
use Rattle.std.specs.List.{AllByRecursion}
use Rattle.std.proofs.lemmas.List.{append-nil, take_rest}
use Rattle.std.proofs.lemmas.List.Concat.{flat_map-append}
use Rattle.model_log.specs.{group_text, HasText, IsGroup, IsGroupText, IsRecord, record_text, single_text}
use Rattle.redo_record.specs.Reading.{Begins, IsPartOf, IsNone, Stops}
use Rattle.model_log.specs.declared.rec.Rec.{Rec}
use Rattle.model_log.specs.declared.rec.Rec.TheVariants.{Init}
use Rattle.redo_record.specs.declared.stop.Stop.{Stop}
use Rattle.redo_record.specs.declared.stop.Stop.TheVariants.{Memory, Short, Bad}
use Rattle.redo_record.proofs.Leaves.{record_part}
use Rattle.redo_record.proofs.Sequence.{not_nil}
use Rattle.model_log.proofs.Several.{OneOfBoth, back_nil, texts, continued, at_end, several_spelled, type_small, is_record, record_is, single_is, is_single, record_head, single_head}

-- ---- a record alone

lone : (rec : Rec) → HasText rec → IsGroup (rec ∷ [])
lone rec has_text = record { some = λ e. absurd cc; each = (has_text, tt) }

lone_text : (text : List ℕ) (rec : Rec) → IsRecord 128 text rec → IsGroupText text (rec ∷ [])
unfolding group_text
lone_text text rec h = record { is_group = lone rec h.has_text; spelled = single_is text rec h }

pub single_begins : (bytes rest : List ℕ) (rec : Rec) → Begins (IsRecord 128) bytes rec rest → Begins IsGroupText bytes (rec ∷ []) rest
single_begins bytes rest rec h = record { text = h.text; is_text = lone_text h.text rec h.is_text; parts = h.parts }

single_none : (bytes : List ℕ) → 128 ≤ get_or bytes 0 0 → IsNone (IsRecord 128) bytes → (group : List Rec) (text rest more : List ℕ) → IsGroupText text group → text ++ rest ≡ bytes ++ more → ⊥
unfolding group_text
single_none bytes flag none [] text rest more is e = is.is_group.some refl
single_none bytes flag none (rec ∷ []) text rest more is e =
    none text rest more rec (subst (λ (t : List ℕ). IsRecord 128 t rec) (sym is.spelled) (is_single rec is.is_group.each.0)) e
single_none [] flag none (first ∷ second ∷ others) text rest more is e = absurd (omega arith)
single_none (byte ∷ bytes) flag none (first ∷ second ∷ others) text rest more is e =
    let whole : texts (first ∷ second ∷ others) ++ 31 ∷ rest ≡ byte ∷ (bytes ++ more) = sym (several_spelled first second others rest) ∙ ap (λ (t : List ℕ). t ++ rest) (sym is.spelled) ∙ e in
    let head = record_head first (texts (second ∷ others) ++ 31 ∷ rest) (bytes ++ more) byte (sym (append_assoc (record_text first) (texts (second ∷ others)) (31 ∷ rest)) ∙ whole) in
    omega (arith, head, type_small first is.is_group.each.0)

pub single_stops : (bytes : List ℕ) → 128 ≤ get_or bytes 0 0 → (stop : Stop) → Stops (IsRecord 128) bytes stop → Stops IsGroupText bytes stop
single_stops bytes flag Memory h = tt
single_stops bytes flag Short h = record { more = h.more; value = h.value ∷ []; some = h.some; is_text = lone_text (bytes ++ h.more) h.value h.is_text }
single_stops bytes flag Bad h = λ text rest more group is e. single_none bytes flag h group text rest more is e

-- nothing is the front of a group
pub group_part : (bytes : List ℕ) → length bytes < 1 → IsPartOf IsGroupText bytes
group_part [] below =
    let part = record_part 128 [] (omega arith) in
    record { more = part.more; value = part.value ∷ []; some = part.some; is_text = lone_text part.more part.value part.is_text }
group_part (byte ∷ bytes) below = absurd (omega arith)

-- ---- several records

-- the text of two or more
spelled_with_end : (group : List Rec) → 2 ≤ length group → group_text group ≡ texts group ++ 31 ∷ []
unfolding group_text
spelled_with_end [] many = absurd (omega arith)
spelled_with_end (rec ∷ []) many = absurd (omega arith)
spelled_with_end (first ∷ second ∷ others) many = refl

many_are_group : (group : List Rec) → 2 ≤ length group → AllByRecursion HasText group → IsGroup group
many_are_group group many each = record { some = λ e. absurd (omega (arith, ap length e)); each = each }

several_begin : (bytes rest : List ℕ) (recs : List Rec) → bytes ≡ texts recs ++ 31 ∷ rest → 2 ≤ length recs → AllByRecursion HasText recs → Begins IsGroupText bytes recs rest
several_begin bytes rest recs so_far many each = record {
  text = texts recs ++ 31 ∷ [];
  is_text = record { is_group = many_are_group recs many each; spelled = sym (spelled_with_end recs many) };
  parts = so_far ∙ sym (append_assoc (texts recs) (31 ∷ []) rest);
}

each_append : (xs ys : List Rec) → AllByRecursion HasText xs → AllByRecursion HasText ys → AllByRecursion HasText (xs ++ ys)
each_append [] ys p q = q
each_append (x ∷ xs) ys p q = (p.0, each_append xs ys p.1 q)

texts_push : (recs : List Rec) (rec : Rec) (x : List ℕ) → texts (recs ++ rec ∷ []) ++ x ≡ texts recs ++ (record_text rec ++ x)
texts_push recs rec x =
    ap (λ (t : List ℕ). t ++ x) (flat_map-append record_text recs (rec ∷ []) ∙ ap (λ (t : List ℕ). texts recs ++ t) (append-nil (record_text rec)))
    ∙ append_assoc (texts recs) (record_text rec) x

-- one more record
pub goes_on : (bytes rest left : List ℕ) (recs : List Rec) (rec : Rec) → bytes ≡ texts recs ++ rest → Begins (IsRecord 0) rest rec left → bytes ≡ texts (recs ++ rec ∷ []) ++ left
goes_on bytes rest left recs rec so_far h =
    so_far ∙ ap (λ (t : List ℕ). texts recs ++ t) (h.parts ∙ ap (λ (t : List ℕ). t ++ left) (record_is h.text rec h.is_text)) ∙ sym (texts_push recs rec left)

pub each_push : (rest left : List ℕ) (recs : List Rec) (rec : Rec) → AllByRecursion HasText recs → Begins (IsRecord 0) rest rec left → AllByRecursion HasText (recs ++ rec ∷ [])
each_push rest left recs rec each h = each_append recs (rec ∷ []) each (h.is_text.has_text, tt)

some_init : Rec
some_init = Init 0 0

regrouped : (a b c d : List ℕ) → a ++ (b ++ (c ++ [])) ++ d ≡ a ++ (b ++ (c ++ d))
regrouped a b c d = simp (append_assoc, append-nil)

-- a record that isn't whole: after the rest of it another can follow, and the end mark
several_part : (bytes rest : List ℕ) (recs : List Rec) → bytes ≡ texts recs ++ rest → AllByRecursion HasText recs → IsPartOf (IsRecord 0) rest → IsPartOf IsGroupText bytes
unfolding some_init
several_part bytes rest recs so_far each h =
    let two : List Rec = h.value ∷ some_init ∷ [] in
    let end : List ℕ = record_text some_init ++ 31 ∷ [] in
    let many : 2 ≤ length (recs ++ two) = omega (arith, length-append recs two) in
    let left : bytes ++ (h.more ++ end) ≡ texts recs ++ (record_text h.value ++ end) =
    ap (λ (t : List ℕ). t ++ (h.more ++ end)) so_far ∙ append_assoc (texts recs) rest (h.more ++ end)
    ∙ ap (λ (t : List ℕ). texts recs ++ t) (sym (append_assoc rest h.more end) ∙ ap (λ (t : List ℕ). t ++ end) (record_is (rest ++ h.more) h.value h.is_text)) in
    let right : group_text (recs ++ two) ≡ texts recs ++ (record_text h.value ++ end) =
    spelled_with_end (recs ++ two) many ∙ ap (λ (t : List ℕ). t ++ 31 ∷ []) (flat_map-append record_text recs two) ∙ regrouped (texts recs) (record_text h.value) (record_text some_init) (31 ∷ []) in
    record {
      more = h.more ++ end;
      value = recs ++ two;
      some = not_nil h.more end h.some;
      is_text = record { is_group = many_are_group (recs ++ two) many (each_append recs two each (h.is_text.has_text, ((omega arith, omega arith), tt))); spelled = left ∙ sym right };
    }

-- a record alone has another first byte
unflagged : (bytes more x : List ℕ) (rec : Rec) → get_or bytes 0 0 < 128 → bytes ≢ [] → single_text rec ++ x ≡ bytes ++ more → ⊥
unflagged [] more x rec below some e = some refl
unflagged (byte ∷ bytes) more x rec below some e = omega (arith, single_head rec x (bytes ++ more) byte e)

-- no group goes on as the bytes do, where no records and an end mark go on as the rest of them do
none_of_several : OneOfBoth → (bytes rest : List ℕ) (recs : List Rec) → get_or bytes 0 0 < 128 → bytes ≡ texts recs ++ rest → AllByRecursion HasText recs → rest ≢ []
    → ((others : List Rec) (x more : List ℕ) → AllByRecursion HasText others → 2 ≤ length (recs ++ others) → rest ++ more ≡ texts others ++ 31 ∷ x → ⊥)
    → (group : List Rec) (text left more : List ℕ) → IsGroupText text group → text ++ left ≡ bytes ++ more → ⊥
unfolding group_text
none_of_several one bytes rest recs below so_far each some ends [] text left more is e = is.is_group.some refl
none_of_several one bytes rest recs below so_far each some ends (rec ∷ []) text left more is e =
    unflagged bytes more left rec below (λ h. some (back_nil (texts recs) rest (sym so_far ∙ h))) (ap (λ (t : List ℕ). t ++ left) (sym is.spelled) ∙ e)
none_of_several one bytes rest recs below so_far each some ends (first ∷ second ∷ others) text left more is e =
    let group : List Rec = first ∷ second ∷ others in
    let parts : texts recs ++ (rest ++ more) ≡ texts group ++ 31 ∷ left =
    sym (append_assoc (texts recs) rest more) ∙ ap (λ (t : List ℕ). t ++ more) (sym so_far) ∙ sym e ∙ ap (λ (t : List ℕ). t ++ left) is.spelled ∙ several_spelled first second others left in
    let w = continued one recs group (rest ++ more) left each is.is_group.each parts in
    ends w.others left more w.each (omega (arith, ap length w.group_is)) w.rest_is

-- nothing begins a record
some_rest : (rest : List ℕ) → IsNone (IsRecord 0) rest → rest ≢ []
some_rest rest none e =
    let part = record_part 0 [] (omega arith) in
    none part.more [] part.more part.value part.is_text (append-nil part.more ∙ ap (λ (t : List ℕ). t ++ part.more) (sym e))

not_ended : (rest : List ℕ) → get_or rest 0 0 ≢ 31 → IsNone (IsRecord 0) rest → (others : List Rec) (x more : List ℕ) → AllByRecursion HasText others → rest ++ more ≡ texts others ++ 31 ∷ x → ⊥
not_ended [] other none others x more each e = some_rest [] none refl
not_ended (byte ∷ rest) other none [] x more each e = other cc
not_ended (byte ∷ rest) other none (rec ∷ others) x more each e =
    none (record_text rec) (texts others ++ 31 ∷ x) more rec (is_record rec each.0) (sym (e ∙ append_assoc (record_text rec) (texts others) (31 ∷ x)))

pub several_stop : OneOfBoth → (bytes rest : List ℕ) (recs : List Rec) → get_or bytes 0 0 < 128 → bytes ≡ texts recs ++ rest → AllByRecursion HasText recs → get_or rest 0 0 ≢ 31 → (stop : Stop) → Stops (IsRecord 0) rest stop → Stops IsGroupText bytes stop
several_stop one bytes rest recs below so_far each other Memory h = tt
several_stop one bytes rest recs below so_far each other Short h = several_part bytes rest recs so_far each h
several_stop one bytes rest recs below so_far each other Bad h = λ text left more group is e.
    none_of_several one bytes rest recs below so_far each (some_rest rest h) (λ others x more has many e. not_ended rest other h others x more has e) group text left more is e

-- fewer than two records have no end mark
ended_none : OneOfBoth → (bytes rest : List ℕ) (recs : List Rec) → get_or bytes 0 0 < 128 → bytes ≡ texts recs ++ 31 ∷ rest → AllByRecursion HasText recs → length recs < 2 → IsNone IsGroupText bytes
ended_none one bytes rest recs below so_far each few = λ text left more group is e.
    none_of_several one bytes (31 ∷ rest) recs below so_far each (λ h. absurd cc)
    (λ others x more has many e.
    let ended = at_end others (rest ++ more) x has e in
    absurd (omega (arith, many, few, ap length (ap (λ (o : List Rec). recs ++ o) ended.0), ap length (append-nil recs))))
    group text left more is e

-- the bytes after the end mark, as the code cuts them
pub behind_end : (bytes rest : List ℕ) (recs : List Rec) → bytes ≡ texts recs ++ rest → AllByRecursion HasText recs → get_or rest 0 0 ≡ 31 → 2 ≤ length recs → Begins IsGroupText bytes recs (take (length rest - 1) (drop 1 rest))
behind_end bytes [] recs so_far each mark many = absurd (omega arith)
behind_end bytes (byte ∷ rest) recs so_far each mark many =
    subst (Begins IsGroupText bytes recs) (sym (take_rest (byte ∷ rest) 1)) (several_begin bytes rest recs (so_far ∙ ap (λ (b : ℕ). texts recs ++ b ∷ rest) mark) many each)

pub too_few : OneOfBoth → (bytes rest : List ℕ) (recs : List Rec) → get_or bytes 0 0 < 128 → bytes ≡ texts recs ++ rest → AllByRecursion HasText recs → get_or rest 0 0 ≡ 31 → length recs < 2 → IsNone IsGroupText bytes
too_few one bytes [] recs below so_far each mark few = absurd (omega arith)
too_few one bytes (byte ∷ rest) recs below so_far each mark few = ended_none one bytes rest recs below (so_far ∙ ap (λ (b : ℕ). texts recs ++ b ∷ rest) mark) each few
