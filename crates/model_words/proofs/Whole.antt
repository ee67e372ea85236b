-- What `clap` makes of the words of a call is what they ask for.
use Rattle.std.proofs.Common.{◌≡◌, ◌∙◌, refl, sym, ap, subst, ℕ, Bool, cond, true, false, List, [], ◌∷◌, codes, Option, Some, None, option_map}
use Rattle.std.specs.Prelude.{option_and_then, find, fold}
use Rattle.std.specs.Str.{bytes_eq}
use Rattle.std.proofs.Math.Bool.{or-false}
use Rattle.std.proofs.lemmas.Slice.Eq.{bytes_eq-Decides}
use Rattle.clap.specs.Walk.{Names, Text, answers_to, nothing_held, walk_from, with_default}
use Rattle.clap.specs.Simple.{names_of}
use Rattle.clap.proofs.OnLiterals.{clap_on_literals}
use Rattle.model_script.specs.{Said, asked_of, is_given, named_command, said_from}
use Rattle.model_script.specs.declared.asked.Asked.{Asked}
use Rattle.model_script.specs.declared.words.Expected.TheVariants.{Any}
use Rattle.model_script.specs.declared.words.Given.{Given}
use Rattle.model_script.specs.declared.words.Name.{Name}
use Rattle.model_script.specs.declared.words.Name.TheVariants as name
use Rattle.model_words.specs.Found.{asked_with, walked_asked}
use Rattle.model_words.proofs.Asked.{command_reads, finish}
use Rattle.model_words.proofs.Asked.{Command as Reads}
use Rattle.model_words.proofs.Format.{format_is}
use Rattle.model_words.proofs.Reading.{dump_is, recover_is, restore_is}
use Rattle.model_words.proofs.Running.{crash_is, run_is}
use Rattle.model_words.proofs.Gen.{gen_is}
use Rattle.model_words.proofs.Leaf.{claims, outcome}
use Rattle.model_words.proofs.Rules.{built_app, crash_names, dump_names, format_names, gen_names, leaf, plain, recover_names, restore_names, run_names, zero_read}
use Rattle.model_words.proofs.Spelled.{bytes_sym}
use Rattle.model_words.proofs.Top.{named_asked, nothing_asked, unnamed_asked}

abbrev Same : List Text → Type 0
Same ws = walked_asked ws ≡ asked_of ws

plain_same : (nm : Text) (names : List Name) → Reads nm names false plain → (ts : List Text)
    → walked_asked (nm ∷ ts) ≡ option_and_then (λ rows. asked_with nm (fold with_default rows (leaf nm names false).rules)) (outcome (leaf nm names false) (walk_from nothing_held) ts)
    → Same (nm ∷ ts)
unfolding asked_of
plain_same nm names is ts walks = walks ∙ ap (option_and_then (finish nm names false plain)) ((claims nm names false ts).0 plain refl None tt []) ∙ command_reads nm names false plain is ts

gen_same : (ts : List Text) → Same (codes "gen" ∷ ts)
unfolding asked_of clap_on_literals
gen_same ts =
    named_asked (codes "gen") gen_names true ts refl refl refl ∙ ap (option_and_then (finish (codes "gen") gen_names true zero_read)) ((claims (codes "gen") gen_names true ts).0 zero_read refl None tt [])
    ∙ command_reads (codes "gen") gen_names true zero_read gen_is ts

format_same : (ts : List Text) → Same (codes "format" ∷ ts)
unfolding clap_on_literals
format_same ts = plain_same (codes "format") format_names format_is ts (named_asked (codes "format") format_names false ts refl refl refl)

run_same : (ts : List Text) → Same (codes "run" ∷ ts)
unfolding clap_on_literals
run_same ts = plain_same (codes "run") run_names run_is ts (named_asked (codes "run") run_names false ts refl refl refl)

crash_same : (ts : List Text) → Same (codes "crash" ∷ ts)
unfolding clap_on_literals
crash_same ts = plain_same (codes "crash") crash_names crash_is ts (named_asked (codes "crash") crash_names false ts refl refl refl)

recover_same : (ts : List Text) → Same (codes "recover" ∷ ts)
unfolding clap_on_literals
recover_same ts = plain_same (codes "recover") recover_names recover_is ts (named_asked (codes "recover") recover_names false ts refl refl refl)

dump_same : (ts : List Text) → Same (codes "dump" ∷ ts)
unfolding clap_on_literals
dump_same ts = plain_same (codes "dump") dump_names dump_is ts (named_asked (codes "dump") dump_names false ts refl refl refl)

restore_same : (ts : List Text) → Same (codes "restore" ∷ ts)
unfolding clap_on_literals
restore_same ts =
    plain_same (codes "restore") restore_names restore_is ts (named_asked (codes "restore") restore_names false ts refl refl refl)

-- ---- where no command is named

not_next : (p : Text × List Text → Bool) (x : Text × List Text) (xs : Names) → p x ≡ false → find p xs ≡ None → find p (x ∷ xs) ≡ None
not_next p x xs e rest = ap (λ b. cond b (Some x) (find p xs)) e ∙ rest

module _ (t : Text) (ts : List Text) where
  abbrev is_name : Text → Bool
  is_name nm = bytes_eq nm t

  module _ (format : is_name (codes "format") ≡ false) (run : is_name (codes "run") ≡ false) (crash : is_name (codes "crash") ≡ false)
      (recover : is_name (codes "recover") ≡ false) (dump : is_name (codes "dump") ≡ false)
      (restore : is_name (codes "restore") ≡ false) (gen : is_name (codes "gen") ≡ false) where
    answers : (nm : Text) → is_name nm ≡ false → answers_to t (nm, []) ≡ false
    answers nm e = or-false (bytes_eq nm t) ∙ e

    unnamed : find (answers_to t) (names_of built_app) ≡ None
    unnamed =
        not_next (answers_to t) (codes "format", []) ((codes "run", []) ∷ (codes "crash", []) ∷ (codes "recover", []) ∷ (codes "dump", []) ∷ (codes "restore", []) ∷ (codes "gen", []) ∷ []) (answers (codes "format") format)
        (not_next (answers_to t) (codes "run", []) ((codes "crash", []) ∷ (codes "recover", []) ∷ (codes "dump", []) ∷ (codes "restore", []) ∷ (codes "gen", []) ∷ []) (answers (codes "run") run)
        (not_next (answers_to t) (codes "crash", []) ((codes "recover", []) ∷ (codes "dump", []) ∷ (codes "restore", []) ∷ (codes "gen", []) ∷ []) (answers (codes "crash") crash)
        (not_next (answers_to t) (codes "recover", []) ((codes "dump", []) ∷ (codes "restore", []) ∷ (codes "gen", []) ∷ []) (answers (codes "recover") recover)
        (not_next (answers_to t) (codes "dump", []) ((codes "restore", []) ∷ (codes "gen", []) ∷ []) (answers (codes "dump") dump)
        (not_next (answers_to t) (codes "restore", []) ((codes "gen", []) ∷ []) (answers (codes "restore") restore)
        (not_next (answers_to t) (codes "gen", []) ([]) (answers (codes "gen") gen)
        refl))))))

    other : (nm : Text) → is_name nm ≡ false → bytes_eq t nm ≡ false
    other nm e = bytes_sym t nm ∙ e

    no_command : (options : List Given) (values : List ℕ) → named_command t options values ≡ None
    no_command options [] = rw (other (codes "gen") gen, other (codes "format") format, other (codes "run") run, other (codes "crash") crash, other (codes "recover") recover, other (codes "dump") dump, other (codes "restore") restore) refl
    no_command options (x ∷ xs) = rw (other (codes "gen") gen) refl

    no_answer : (y : Option Said) → option_and_then (λ (said : Said). option_map (λ command. record { command = command; files = is_given name.Files said.options }) (named_command t said.options said.values)) y ≡ (let none : Option Asked = None in none)
    no_answer None = refl
    no_answer (Some said) = ap (option_map (λ command. record { command = command; files = is_given name.Files said.options })) (no_command said.options said.values)

    unnamed_same : Same (t ∷ ts)
    unfolding asked_of
    unnamed_same = unnamed_asked t ts unnamed ∙ sym (no_answer (said_from Any ts))

  as_named : (nm : Text) → Same (nm ∷ ts) → is_name nm ≡ true → Same (t ∷ ts)
  as_named nm h e = subst (λ x. Same (x ∷ ts)) ((bytes_eq-Decides nm t).0 e) h

  by_name : (a b c d e f g : Bool) → is_name (codes "format") ≡ a → is_name (codes "run") ≡ b → is_name (codes "crash") ≡ c → is_name (codes "recover") ≡ d
      → is_name (codes "dump") ≡ e → is_name (codes "restore") ≡ f → is_name (codes "gen") ≡ g → Same (t ∷ ts)
  by_name true b c d e f g ha hb hc hd he hf hg = as_named (codes "format") (format_same ts) ha
  by_name false true c d e f g ha hb hc hd he hf hg = as_named (codes "run") (run_same ts) hb
  by_name false false true d e f g ha hb hc hd he hf hg = as_named (codes "crash") (crash_same ts) hc
  by_name false false false true e f g ha hb hc hd he hf hg = as_named (codes "recover") (recover_same ts) hd
  by_name false false false false true f g ha hb hc hd he hf hg = as_named (codes "dump") (dump_same ts) he
  by_name false false false false false true g ha hb hc hd he hf hg = as_named (codes "restore") (restore_same ts) hf
  by_name false false false false false false true ha hb hc hd he hf hg = as_named (codes "gen") (gen_same ts) hg
  by_name false false false false false false false ha hb hc hd he hf hg = unnamed_same ha hb hc hd he hf hg

nothing_same : Same []
unfolding asked_of
nothing_same = nothing_asked

-- `clap`'s walk takes exactly the words of the definition, and gives what they ask for
pub same : (ws : List Text) → walked_asked ws ≡ asked_of ws
same [] = nothing_same
same (t ∷ ts) =
    by_name t ts (bytes_eq (codes "format") t) (bytes_eq (codes "run") t) (bytes_eq (codes "crash") t) (bytes_eq (codes "recover") t)
    (bytes_eq (codes "dump") t) (bytes_eq (codes "restore") t) (bytes_eq (codes "gen") t)
    refl refl refl refl refl refl refl
