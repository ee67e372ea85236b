-- What is read of the rows of uses, and of what they say.
use Rattle.std.proofs.Common.{◌≡◌, ◌∙◌, refl, sym, ap, subst, Bool, cond, true, false, List, [], ◌∷◌, ◌++◌, map, Option, Some, None, is_some, true≢false, append-nil, append_assoc}
use Rattle.std.specs.Prelude.{if◌then◌else◌, option_and_then, find, slice_get, unwrap_or}
use Rattle.std.specs.Str.{bytes_eq}
use Rattle.std.proofs.lemmas.Slice.Eq.{bytes_eq-Decides}
use Rattle.clap.specs.Lexer.{long_of, short_of}
use Rattle.clap.specs.Walk.{Row, Text, first_of, has_row}
use Rattle.model_script.specs.{is_flag, name_of}
use Rattle.model_script.specs.declared.words.Name.{Name}
use Rattle.model_words.proofs.Rules.{Place, all_read, id, one_read, plain, two_read, zero_read}
use Rattle.model_words.proofs.Spelled.{is_member, name_at, name_found, spelled}
use Rattle.model_words.proofs.Uses.{Use, Word, adds, any, end_word, flag_word, flagged, is_bare, is_value, joined_word, named, number_of, numbered, open_word, other_word, raw_from, raw_value, raw_with, raw_word, trailing, use_id, use_row, use_text, value_word, valued, with_use}

-- ---- the uses of a command

abbrev pub Ok : List Name → Place → List Use → Type 0
Ok names p [] = Unit {0}
Ok names p (flagged n ∷ us) = (is_member names n ≡ true) × (is_flag n ≡ true) × Ok names p us
Ok names p (numbered n t ∷ us) = (is_member names n ≡ true) × (is_flag n ≡ false) × Ok names p us
Ok names zero_read (valued zero_read t ∷ us) = Ok names one_read us
Ok names one_read (valued one_read t ∷ us) = Ok names two_read us
Ok names two_read (valued two_read t ∷ us) = Ok names all_read us
Ok names p (valued q t ∷ us) = ⊥

abbrev WordOk : List Name → Option Word → Type 0
WordOk names (Some (flag_word n)) = (is_member names n ≡ true) × (is_flag n ≡ true)
WordOk names (Some (open_word n)) = (is_member names n ≡ true) × (is_flag n ≡ false)
WordOk names (Some (joined_word n v)) = (is_member names n ≡ true) × (is_flag n ≡ false)
WordOk names _ = Unit {0}

named_ok : (names : List Name) (n : Name) (b : Bool) → is_flag n ≡ b → is_member names n ≡ true → (val : Option Text) → WordOk names (named val n)
named_ok names n true e member None = subst (λ b. WordOk names (Some (if b then flag_word n else open_word n))) (sym e) (member, e)
named_ok names n false e member None = subst (λ b. WordOk names (Some (if b then flag_word n else open_word n))) (sym e) (member, e)
named_ok names n true e member (Some x) = subst (λ b. WordOk names (if b then None else Some (joined_word n x))) (sym e) tt
named_ok names n false e member (Some x) = subst (λ b. WordOk names (if b then None else Some (joined_word n x))) (sym e) (member, e)

word_ok : (names : List Name) (t : Text) → WordOk names (raw_word names t)
word_ok names t = whole (bytes_eq t (45 ∷ 45 ∷ []))
  where
    found_ok : (l : Text × Option Text) (found : Option Name) → find (λ n. bytes_eq (id n) l.0) names ≡ found → WordOk names (option_and_then (named l.1) found)
    found_ok l None e = tt
    found_ok l (Some n) e = named_ok names n (is_flag n) refl (name_found names l.0 n e).1 l.1

    bare_ok : (b : Bool) → WordOk names (if b then Some value_word else None)
    bare_ok true = tt
    bare_ok false = tt

    other_ok : (l : Option (Text × Option Text)) → WordOk names (other_word names l (short_of t))
    other_ok None = bare_ok (is_bare (short_of t))
    other_ok (Some l) = found_ok l (find (λ n. bytes_eq (id n) l.0) names) refl

    whole : (b : Bool) → WordOk names (if b then Some end_word else other_word names (long_of t) (short_of t))
    whole true = tt
    whole false = other_ok (long_of t)

with_says : (u : Use) (k : Option (List Use)) (us : List Use) → with_use u k ≡ Some us → (rest : List Use) × (k ≡ Some rest) × (us ≡ u ∷ rest)
with_says u None us e = absurd (true≢false (ap is_some (sym e)))
with_says u (Some rest) us e = (rest, refl, ap (λ o. unwrap_or o us) (sym e))

abbrev Goes : List Name → (Place → Option (List Use)) → Type 0
Goes names k = (p : Place) (us : List Use) → k p ≡ Some us → Ok names p us

value_goes : (names : List Name) (t : Text) (k : Place → Option (List Use)) → Goes names k → (p : Place) (us : List Use) → raw_value p t k ≡ Some us → Ok names p us
value_goes names t k go plain us e = absurd (true≢false (ap is_some (sym e)))
value_goes names t k go all_read us e = absurd (true≢false (ap is_some (sym e)))
value_goes names t k go zero_read us e = let w = with_says (valued zero_read t) (k one_read) us e in subst (Ok names zero_read) (sym w.2) (go one_read w.0 w.1)
value_goes names t k go one_read us e = let w = with_says (valued one_read t) (k two_read) us e in subst (Ok names one_read) (sym w.2) (go two_read w.0 w.1)
value_goes names t k go two_read us e = let w = with_says (valued two_read t) (k all_read) us e in subst (Ok names two_read) (sym w.2) (go all_read w.0 w.1)

abbrev AllGo : List Name → List Text → Type 0
AllGo names ts = Goes names (λ p. raw_from names any p ts) × Goes names (λ p. raw_from names trailing p ts)
    × ((n : Name) → is_member names n ≡ true → is_flag n ≡ false → Goes names (λ p. raw_from names (number_of n) p ts))

module _ (names : List Name) (t : Text) (ts : List Text) (ih : AllGo names ts) where
  word_goes : (p : Place) (us : List Use) (w : Option Word) → WordOk names w → raw_with p t w (λ mode q. raw_from names mode q ts) ≡ Some us → Ok names p us
  word_goes p us None ok e = absurd (true≢false (ap is_some (sym e)))
  word_goes p us (Some (flag_word n)) ok e = let w = with_says (flagged n) (raw_from names any p ts) us e in subst (Ok names p) (sym w.2) (ok.0, ok.1, ih.0 p w.0 w.1)
  word_goes p us (Some (open_word n)) ok e = ih.2 n ok.0 ok.1 p us e
  word_goes p us (Some (joined_word n v)) ok e = let w = with_says (numbered n v) (raw_from names any p ts) us e in subst (Ok names p) (sym w.2) (ok.0, ok.1, ih.0 p w.0 w.1)
  word_goes p us (Some value_word) ok e = value_goes names t (λ q. raw_from names any q ts) ih.0 p us e
  word_goes p us (Some end_word) ok e = ih.1 p us e

  more_goes : AllGo names (t ∷ ts)
  unfolding raw_from
  more_goes = (
    λ p us e. word_goes p us (raw_word names t) (word_ok names t) e,
    λ p us e. value_goes names t (λ q. raw_from names trailing q ts) ih.1 p us e,
    λ n member takes p us e. number (is_value t) n member takes p us e,
  )
    where
      number : (b : Bool) (n : Name) → is_member names n ≡ true → is_flag n ≡ false → (p : Place) (us : List Use)
          → (if b then with_use (numbered n t) (raw_from names any p ts) else None) ≡ Some us → Ok names p us
      number true n member takes p us e = let w = with_says (numbered n t) (raw_from names any p ts) us e in subst (Ok names p) (sym w.2) (member, takes, ih.0 p w.0 w.1)
      number false n member takes p us e = absurd (true≢false (ap is_some (sym e)))

none_goes : (names : List Name) → AllGo names []
unfolding raw_from
none_goes names = (
  λ p us e. subst (Ok names p) (ap (λ o. unwrap_or o us) e) tt,
  λ p us e. subst (Ok names p) (ap (λ o. unwrap_or o us) e) tt,
  λ n member takes p us e. absurd (true≢false (ap is_some (sym e))),
)

pub goes : (names : List Name) (ts : List Text) → AllGo names ts
goes names [] = none_goes names
goes names (t ∷ ts) = more_goes names t ts (goes names ts)

-- ---- the rows of uses

pub same_name : (m n : Name) → bytes_eq (id m) (id n) ≡ true → m ≡ n
same_name m n e =
    let same : id m ≡ id n = (bytes_eq-Decides (id m) (id n)).0 e in
    ap (λ o. unwrap_or o m) (sym (name_at m) ∙ ap name_of (spelled m ∙ ap (λ x. 45 ∷ 45 ∷ x) same ∙ sym (spelled n)) ∙ name_at n)

pub added : (rows : List Row) (us : List Use) (now : List Row) → adds rows us ≡ Some now → now ≡ rows ++ map use_row us
added rows [] now e = ap (λ o. unwrap_or o now) (sym e) ∙ sym (append-nil rows)
added rows (u ∷ us) now e = go (has_row (use_id u) rows) e (added (rows ++ use_row u ∷ []) us now)
  where
    go : (b : Bool) → (if b then None else adds (rows ++ use_row u ∷ []) us) ≡ Some now → (adds (rows ++ use_row u ∷ []) us ≡ Some now → now ≡ (rows ++ use_row u ∷ []) ++ map use_row us)
        → now ≡ rows ++ map use_row (u ∷ us)
    go true e ih = absurd (true≢false (ap is_some (sym e)))
    go false e ih = ih e ∙ append_assoc rows (use_row u ∷ []) (map use_row us)

-- the text that is read of an id
abbrev pub text_in : Text → List Use → Option Text
text_in i us = first_of i (map use_row us)

pub text_more : (i : Text) (u : Use) (us : List Use) → text_in i (u ∷ us) ≡ cond (bytes_eq (use_id u) i) (Some (use_text u)) (text_in i us)
text_more i u us = go (bytes_eq (use_id u) i)
  where
    go : (b : Bool) → option_and_then (λ (r : Row). slice_get r.values 0) (cond b (Some (use_row u)) (find (λ r. bytes_eq r.id i) (map use_row us)))
        ≡ cond b (Some (use_text u)) (text_in i us)
    go true = refl
    go false = refl

-- ---- defaults
