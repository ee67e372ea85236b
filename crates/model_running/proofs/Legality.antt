-- The invariant gives a legal history.
use Rattle.std.proofs.Common.{Bool, List, Some, [], ap, arith, cond, eqb, false, length, ltb, refl, slice_get, subst, suc, sym, take, true, zero, ℕ, ◌+◌, ◌<◌, ◌∙◌, ◌∷◌, ◌≡◌, ◌≤◌}
use Rattle.std.proofs.lemmas.Bool.{eqb-true, le-ltb, ltb-false, ltb-true}
use Rattle.std.specs.Prelude.{nat_le}
use lib.ListN.{get_elem?}
use Rattle.model_base.specs.declared.shape.Shape.{Shape}
use Rattle.model_core.specs.{answered, end_of, entry, Line, line_at, lsn, mode, Setup}
use Rattle.model_running.proofs.Groups.{line_below}
use Rattle.model_running.proofs.Places.{history_spans, lsn_is, sn_back, tiled_spans}
use Rattle.model_running.specs.History.{history_entry, state_of}
use Rattle.model_running.specs.Histories.{history_of}
use Rattle.model_running.specs.Script.{IsLineOf, IsOfScript}
use Rattle.model_report.proofs.Growing.{state_by-allows, state_by-says}
use Rattle.model_report.specs.{entries_of_user, FitsMarks, FitsMode, IsAnswered, IsLegal, IsLegalEntry, lines_of_user, state_by}
use Rattle.model_report.specs.declared.entry.Entry.{Entry}
use Rattle.model_report.specs.declared.entry.Marks.{Marks}
use Rattle.model_report.specs.declared.entry.State.TheVariants.{Copied, Flushed, Lost, Written}
use Rattle.model_log.specs.{group_length, IsTiled, lsn_of, sn_of}
use Rattle.model_logcore.specs.{Commits, count_of, Place, Tiled}
use Rattle.model_script.specs.{group_of}
use Rattle.model_script.specs.declared.script.ScriptLine.{ScriptLine}
use mathlib.Core.Option as maybe
use Rattle.model_core.specs.States as core

-- an element of the history is that of a group
pub from_log : (answered : ℕ → ℕ) (marks : Marks) (log : List core.Entry) (i : ℕ) (entry : Entry) → slice_get (history_of answered marks log) i ≡ Some entry → (e : core.Entry) × (get_elem? log i ≡ maybe.some e) × (history_entry answered marks e ≡ entry)
from_log answered marks [] i entry h = absurd (cc)
from_log answered marks (x ∷ xs) zero entry h = (x, refl, cc)
from_log answered marks (x ∷ xs) (suc i) entry h = from_log answered marks xs i entry h

-- The group of a user's i-th entry: so many of the user's come before it
pub record IsRanked (answered : ℕ → ℕ) (marks : Marks) (user i : ℕ) (log : List core.Entry) (entry : Entry) : Type 0 where
  pub place : ℕ
  pub group : core.Entry
  pub is : get_elem? log place ≡ maybe.some group
  pub own : group.user ≡ user
  pub entry_is : history_entry answered marks group ≡ entry
  pub before : count_of user (take place log) ≡ i

pub ranked : (answered : ℕ → ℕ) (marks : Marks) (user i : ℕ) (log : List core.Entry) (entry : Entry) → slice_get (entries_of_user user (history_of answered marks log)) i ≡ Some entry → IsRanked answered marks user i log entry
ranked answered marks user i [] entry h = absurd (cc)
ranked answered marks user i (x ∷ xs) entry h = by (λ n e. ranked answered marks user n xs entry e) (eqb x.user user) refl i h
  where
    later : (b : Bool) (n j : ℕ) → eqb x.user user ≡ b → ◌≡◌ {A = ℕ} (cond b 1 0 + n) j → IsRanked answered marks user n xs entry → IsRanked answered marks user j (x ∷ xs) entry
    later b n j c m r = record {
      place = suc r.place;
      group = r.group;
      is = r.is;
      own = r.own;
      entry_is = r.entry_is;
      before = ap (λ (z : Bool). let k : ℕ = cond z 1 0 in k + count_of user (take r.place xs)) c ∙ ap (λ (k : ℕ). cond b 1 0 + k) r.before ∙ m;
    }

    by : ((n : ℕ) → slice_get (entries_of_user user (history_of answered marks xs)) n ≡ Some entry → IsRanked answered marks user n xs entry)
        → (b : Bool) → eqb x.user user ≡ b → (i : ℕ) → slice_get (cond b (history_entry answered marks x ∷ entries_of_user user (history_of answered marks xs)) (entries_of_user user (history_of answered marks xs))) i ≡ Some entry → IsRanked answered marks user i (x ∷ xs) entry
    by more true c zero h = record { place = 0; group = x; is = refl; own = eqb-true x.user user c; entry_is = cc; before = refl }
    by more true c (suc i) h = later true i (suc i) c (omega arith) (more i h)
    by more false c i h = later false i i c (omega arith) (more i h)

pub counts : (answered : ℕ → ℕ) (marks : Marks) (user : ℕ) (log : List core.Entry) → length (entries_of_user user (history_of answered marks log)) ≡ count_of user log
counts answered marks user [] = refl
counts answered marks user (x ∷ xs) = by (eqb x.user user) (counts answered marks user xs)
  where
    by : (b : Bool) → length (entries_of_user user (history_of answered marks xs)) ≡ count_of user xs
        → length (cond b (history_entry answered marks x ∷ entries_of_user user (history_of answered marks xs)) (entries_of_user user (history_of answered marks xs))) ≡ cond b 1 0 + count_of user xs
    by true r = omega arith
    by false r = omega arith

pub get_below : (xs : List Entry) (i : ℕ) (x : Entry) → slice_get xs i ≡ Some x → i < length xs
get_below [] i x h = absurd (cc)
get_below (y ∷ ys) zero x h = omega arith
get_below (y ∷ ys) (suc i) x h = let r = get_below ys i x h in omega arith

-- a commit is lost exactly where it isn't answered
lost_by : (marks : Marks) (end : ℕ) (b : Bool) → cond b (state_by marks end) Lost ≡ Lost → b ≡ false
lost_by marks end false e = refl
lost_by marks end true e = by (nat_le end marks.flushed) (nat_le end marks.write) e
  where
    by : (a d : Bool) → cond a Flushed (cond d Written Copied) ≡ Lost → true ≡ false
    by true d e = absurd (cc)
    by false true e = absurd (cc)
    by false false e = absurd (cc)

pub lost_unanswered : (answered : ℕ) (marks : Marks) (e : core.Entry) → state_of answered marks e ≡ Lost → answered ≤ e.k
lost_unanswered answered marks e lost = ltb-false e.k answered (lost_by marks (lsn (end_of e)) (ltb e.k answered) lost)

pub unanswered_lost : (answered : ℕ) (marks : Marks) (e : core.Entry) → answered ≤ e.k → state_of answered marks e ≡ Lost
unanswered_lost answered marks e l = ap (λ (b : Bool). cond b (state_by marks (lsn (end_of e))) Lost) (le-ltb e.k answered l)

fits : (marks : Marks) (mode end k n : ℕ) (b : Bool) → ltb k n ≡ b → (k < n → IsAnswered marks mode end) → FitsMarks marks end (cond b (state_by marks end) Lost) × FitsMode mode (cond b (state_by marks end) Lost)
fits marks mode end k n false c a = (tt, tt)
fits marks mode end k n true c a = (state_by-says marks end, state_by-allows marks mode end (a (ltb-true k n c)))

-- What the invariant says of the groups and the answered commits makes the history legal
pub legal_log : (c : Setup) (script : List ScriptLine) (shape : Shape) (sn : ℕ) (log : List core.Entry) (place : ℕ → Place) (state answered : ℕ → ℕ) (marks : Marks) → Tiled c sn log place → Commits c marks.write marks.flushed log state answered → IsOfScript c script shape
    → IsLegal script shape.space (lsn c.base) marks (history_of answered marks log)
legal_log c script shape sn log place state answered marks T C S = record {
  tiled = subst (IsTiled (lsn c.base)) (sym (history_spans answered marks log)) (tiled_spans log c.base sn T.tiles);
  each = λ i entry found.
      let r = from_log answered marks log i entry found in
      let e : core.Entry = r.0 in
      let line = T.lines i e r.1 in
      let l = line_below (lines_of_user e.user script) e.k (let a = line.0 in let b = S.count e.user in omega arith) in
      let one : ScriptLine = l.0 in
      let of : IsLineOf c shape one (line_at (c.script e.user) e.k) = S.each e.user e.k one l.1 in
      let size : length e.bytes ≡ group_length (group_of shape.space one) = ap length (line.1 ∙ ap (λ (z : Line). z.bytes) of) in
      let both = fits marks one.mode (lsn (end_of e)) e.k (answered e.user) (ltb e.k (answered e.user)) refl
      (λ below. record { flushed = λ f. C.flush i e r.1 below (ap (λ (z : Line). z.mode) of ∙ f); written = λ w. C.wrote i e r.1 below (ap (λ (z : Line). z.mode) of ∙ w) }) in
      subst (IsLegalEntry script shape.space marks) r.2 (record {
        line = one;
        of_line = record {
          line_is = l.1;
          end_is = lsn_is (end_of e) ∙ ap lsn_of (let a = sn_back e.start in let z : end_of e ≡ sn_of (lsn e.start) + group_length (group_of shape.space one) = omega arith in z);
        };
        marks_say = both.0;
        mode_allows = both.1;
      });
  in_order = λ user i entry found.
      let r = ranked answered marks user i log entry found in
      ap (λ (z : Entry). z.k) (sym r.entry_is) ∙ T.ranks r.place r.group r.is ∙ ap (λ (u : ℕ). count_of u (take r.place log)) r.own ∙ r.before;
  lost_last = λ user i entry found lost.
      let r = ranked answered marks user i log entry found in
      let n = lost_unanswered (answered r.group.user) marks r.group (ap (λ (z : Entry). z.state) r.entry_is ∙ lost) in
      let k : r.group.k ≡ i = T.ranks r.place r.group r.is ∙ ap (λ (u : ℕ). count_of u (take r.place log)) r.own ∙ r.before in
      let d = C.last r.group.user in
      let o : count_of r.group.user log ≡ count_of user log = ap (λ (u : ℕ). count_of u log) r.own in
      let b = get_below (entries_of_user user (history_of answered marks log)) i entry found in
      let a = counts answered marks user log in
      omega arith;
}
