use Rattle.std.proofs.Common.{Bool, List, ap, false, length, subst, sym, ◌+◌, ◌∙◌, ◌≡◌}
use Rattle.redo_follow.specs.{Kept}
use Rattle.redo_ownrule.specs.Players.{AreInOrder, workers}
use Rattle.redo_ownrule.specs.Sharing.{AreSeatsOf, own_of, table_of}
use Rattle.redo_ownrule.specs.declared.player.Player.{Player}
use Rattle.redo_rule.specs.Ruled.{starts_about}
use Rattle.tests_threads.proofs.seats.store.seated.Goals as goal

pub returns : goal.returns
returns c =
    let S = c.seats-seats.new.self in
    let players : List (Player Kept) = c.args.players.items in
    let seats = c.seats-seats.result.items in
    let same = c.seats-seats.ensures.same in
    let own : own_of S ≡ false = ap (λ b. b.shared.key.own_writes) same ∙ c.requires.own in
    record {
      seated = c.seats-seats.ensures.seated;
      own = own;
      plays = record {
        seats = subst (λ (o : Bool). AreSeatsOf (table_of S) o seats players) own
            (subst (λ (l : List (Player Kept)). AreSeatsOf (table_of S) (own_of S) seats l) c.as_slice.ensures.value
            c.seats-seats.ensures.seats);
        laid = c.seats-seats.ensures.layout.1;
        plain = subst (λ (o : Bool). AreInOrder o players) c.requires.own c.requires.new.order;
      };
      all = subst (λ b. length players + workers b.shared.key.own_writes ≡ length (starts_about b.shared.key))
          (sym same)
          c.requires.new.count;
      apart = ap (λ b. b.shared.key.plan.archive) same ∙ c.requires.apart;
      fixed = ap (λ b. b.shared.key.live) same ∙ c.requires.fixed;
    }
