-- A follower of a machine in its run has what the invariant says of it.
use Rattle.std.proofs.Common.{Bool, List, [], ap, arith, cond, false, slice_index, subst, sym, ℕ, ◌<◌, ◌∙◌, ◌≡◌, ◌≢◌, ◌≤◌}
use Rattle.std.proofs.lemmas.Bool.{ne_eqb}
use lib.ListN.{get_elem?}
use mathlib.Core.Option.{some}
use Rattle.model_core.proofs.Lsns.{lsn_le}
use Rattle.model_core.specs.{archives, Entry, Given, index, IsWord, layout_of, SharedWords, Setup}
use Rattle.model_core.specs.States as model
use Rattle.model_core.specs.NamedWords.{read}
use Rattle.model_core.specs.declared.words.Word.{Word}
use Rattle.model_core.specs.declared.words.Word.TheVariants as word
use Rattle.model_running.proofs.FlatWords.{flat_read}
use Rattle.model_running.specs.ReadHalf.{FollowerHas, groups_upto, HasByKind, ReaderHas, ReadHalf}
use Rattle.redo_disk.specs.{Seen}
use Rattle.redo_drive.proofs.Viewed.{views_at}
use Rattle.redo_drive.specs.{RunOf, run_log_side, RunsFromWith, views_of}
use Rattle.redo_drive.specs.declared.actor.Actor.{Actor}
use Rattle.redo_drive.specs.declared.actor.Actor.TheVariants as own
use Rattle.redo_drive.specs.declared.parts.Parts.{Parts}
use Rattle.redo_follow.specs.{StandsFor}
use Rattle.redo_follow.specs.Following.{Following}
use Rattle.redo_machine.specs.Following.{FollowsLog}

module _ {L D R : Type 0} {archive : Bool} (log_seen : L → Seen) (data_seen : D → Seen) (stands : R → List Given → Type 0)
    (run : RunOf L D) (starts actors : List (Actor R)) (parts : Parts L D)
    (from : RunsFromWith log_seen data_seen stands run archive starts parts actors)
    (told : (run_log_side log_seen data_seen run).Tells parts.log) (seat : ℕ) (before after : Following R)
    (number : 0 < before.state.number) (first : get_elem? starts seat ≡ some (own.Follower before))
    (now : get_elem? actors seat ≡ some (own.Follower after)) where
  abbrev c : Setup
  c = run.setup

  abbrev m : SharedWords
  m = from.runs.running.shared

  abbrev log : List Entry
  log = from.runs.running.log_ghost.log

  same : after.state.number ≡ before.state.number
  same = from.same seat (own.Follower before) (own.Follower after) first now

  follows : archives after.state ≡ false
  follows = let e = same in let other : after.state.number ≢ 0 = omega arith in ne_eqb after.state.number 0 other

  half : ReadHalf (run_log_side log_seen data_seen run) c m log parts.log (views_of actors)
  half = from.runs.running.both.reading told

  reader : ReaderHas c m log seat after.state
  reader = half.each seat (model.Reader after.state) (views_at actors seat (own.Follower after) now)

  follower : FollowerHas c m log after.state
  follower = subst (λ (b : Bool). HasByKind c m log b after.state) follows reader.has

  word_is : (w : Word) → IsWord (layout_of c) w → slice_index parts.words.words (index (layout_of c) w) ≡ read m w
  word_is w is = ap (λ (words : List ℕ). slice_index words (index (layout_of c) w)) from.runs.running.flat_is
      ∙ flat_read (layout_of c) m from.runs.running.both.logged.sized w is

  below : after.state.place ≤ m.flushed
  below =
      let F = follower in
      let place = F.place in let read = F.below in let flushed = F.read.flushed in
      let less = lsn_le after.state.at F.to (omega arith) in
      omega arith

  few : IsWord (layout_of c) (word.Place after.state.number)
  few = let last = reader.last in let readers = from.runs.running.both.script.few_readers in omega arith

  under : slice_index m.places after.state.number ≤ after.state.place
  under = let up = reader.up in let word = reader.word in omega arith

  pub follows_log : FollowsLog stands c.base log parts before after
  follows_log = record {
    place = follower.place;
    bound = follower.bound;
    flushed = subst (λ (n : ℕ). after.state.place ≤ n) (sym (word_is word.Flushed tt)) below;
    stored = subst (λ (n : ℕ). n ≤ after.state.place) (sym (word_is (word.Place after.state.number) few)) under;
    asked = subst (λ (n : ℕ). parts.log.marks.asked ≤ n) (sym (word_is (word.Place after.state.number) few))
        (half.asked after.state.number reader.first reader.last);
    got = subst (λ (b : Bool). StandsFor stands before.receiver (cond b [] (groups_upto after.state.at log))
        after.receiver)
        follows (from.got told seat (own.Follower before) (own.Follower after) first now);
  }
