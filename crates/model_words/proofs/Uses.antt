-- The words of one command, as uses of its arguments in turn.
use Rattle.std.proofs.Common.{◌≡◌, ◌&&◌, refl, Bool, cond, not, true, false, List, [], ◌∷◌, ◌++◌, codes, Option, Some, None, is_some, option_map}
use Rattle.std.specs.Prelude.{if◌then◌else◌, option_and_then, slice_get, find}
use Rattle.std.specs.Str.{bytes_eq, chars}
use Rattle.clap.specs.Lexer.{long_of, short_of}
use Rattle.clap.specs.Walk.{Row, Text, has_row}
use Rattle.clap.specs.declared.builder.value_parser.Reading.TheVariants as reading
use Rattle.clap.specs.declared.parser.matches.ValueSource.TheVariants.{CommandLine}
use Rattle.model_script.specs.{is_flag}
use Rattle.model_script.specs.declared.words.Name.{Name}
use Rattle.model_words.proofs.Rules.{Place, all_read, id, one_read, plain, two_read, zero_read}

pub data Use : Type 0 where
  flagged : Name → Use
  numbered : Name → Text → Use
  valued : Place → Text → Use

abbrev pub value_id : Place → Text
value_id zero_read = codes "seed"
value_id one_read = codes "users"
value_id two_read = codes "groups"
value_id plain = []
value_id all_read = []

abbrev pub use_id : Use → Text
use_id (flagged n) = id n
use_id (numbered n t) = id n
use_id (valued p t) = value_id p

abbrev pub use_text : Use → Text
use_text (flagged n) = codes "true"
use_text (numbered n t) = t
use_text (valued p t) = t

abbrev pub text_row : Text → Text → Row
text_row name text = record { id = name; values = text ∷ []; count = None; source = Some CommandLine; reading = reading.AsWritten }

abbrev pub use_row : Use → Row
use_row u = text_row (use_id u) (use_text u)

-- the rows with those of more uses, none of which is there yet
abbrev pub adds : List Row → List Use → Option (List Row)
adds rows [] = Some rows
adds rows (u ∷ us) = if has_row (use_id u) rows then None else adds (rows ++ use_row u ∷ []) us

pub data Mode : Type 0 where
  any : Mode
  number_of : Name → Mode
  trailing : Mode

pub data Word : Type 0 where
  flag_word : Name → Word
  open_word : Name → Word
  joined_word : Name → Text → Word
  value_word : Word
  end_word : Word

abbrev pub named : Option Text → Name → Option Word
named None n = Some (if is_flag n then flag_word n else open_word n)
named (Some v) n = if is_flag n then None else Some (joined_word n v)

-- the word is `-`, or does not begin with a dash, or is no text
abbrev pub is_bare : Option Text → Bool
is_bare None = true
is_bare (Some flags) = not (is_some (slice_get (chars flags) 0))

abbrev pub named_long : List Name → Text × Option Text → Option Word
named_long names p = option_and_then (named p.1) (find (λ n. bytes_eq (id n) p.0) names)

abbrev pub other_word : List Name → Option (Text × Option Text) → Option Text → Option Word
other_word names (Some p) s = named_long names p
other_word names None s = if is_bare s then Some value_word else None

abbrev pub raw_word : List Name → Text → Option Word
raw_word names t = if bytes_eq t (45 ∷ 45 ∷ []) then Some end_word else other_word names (long_of t) (short_of t)

abbrev pub is_value : Text → Bool
is_value t = not (bytes_eq t (45 ∷ 45 ∷ [])) && (not (is_some (long_of t)) && is_bare (short_of t))

abbrev pub with_use : Use → Option (List Use) → Option (List Use)
with_use u = option_map (λ us. u ∷ us)

abbrev pub raw_value : Place → Text → (Place → Option (List Use)) → Option (List Use)
raw_value plain t k = None
raw_value zero_read t k = with_use (valued zero_read t) (k one_read)
raw_value one_read t k = with_use (valued one_read t) (k two_read)
raw_value two_read t k = with_use (valued two_read t) (k all_read)
raw_value all_read t k = None

abbrev pub raw_with : Place → Text → Option Word → (Mode → Place → Option (List Use)) → Option (List Use)
raw_with p t None k = None
raw_with p t (Some (flag_word n)) k = with_use (flagged n) (k any p)
raw_with p t (Some (open_word n)) k = k (number_of n) p
raw_with p t (Some (joined_word n v)) k = with_use (numbered n v) (k any p)
raw_with p t (Some value_word) k = raw_value p t (k any)
raw_with p t (Some end_word) k = k trailing p

unfoldable pub raw_from : List Name → Mode → Place → List Text → Option (List Use)
raw_from names any p [] = Some []
raw_from names (number_of n) p [] = None
raw_from names trailing p [] = Some []
raw_from names any p (t ∷ ts) = raw_with p t (raw_word names t) (λ mode place. raw_from names mode place ts)
raw_from names (number_of n) p (t ∷ ts) = if is_value t then with_use (numbered n t) (raw_from names any p ts) else None
raw_from names trailing p (t ∷ ts) = raw_value p t (λ place. raw_from names trailing place ts)

-- ---- a use that waits to be put down

abbrev pub with_pending : Option Use → List Use → List Use
with_pending None us = us
with_pending (Some u) us = u ∷ us

abbrev pub after : Option Use → List Row → List Row
after None rows = rows
after (Some u) rows = rows ++ use_row u ∷ []

abbrev pub repeats : Option Use → List Row → Bool
repeats None rows = false
repeats (Some u) rows = has_row (use_id u) rows

abbrev pub read_to : Option Use → List Row → Option (List Use) → Option (List Row)
read_to pend rows found = option_and_then (λ us. adds rows (with_pending pend us)) found

pub read_split : (pend : Option Use) (rows : List Row) (found : Option (List Use))
    → read_to pend rows found ≡ cond (repeats pend rows) None (read_to None (after pend rows) found)
read_split None rows found = refl
read_split (Some u) rows None = go (has_row (use_id u) rows)
  where
    go : (b : Bool) → ◌≡◌ {A = Option (List Row)} None (cond b None None)
    go true = refl
    go false = refl
read_split (Some u) rows (Some us) = refl

pub read_with : (u : Use) (rows : List Row) (found : Option (List Use)) → read_to None rows (with_use u found) ≡ read_to (Some u) rows found
read_with u rows None = refl
read_with u rows (Some us) = refl
