use Rattle.std.specs.Prelude.{vec_capacity, vec_len, ◌≡◌, ◌≤◌}
use Rattle.bank.specs.declared.TheConstants.{ACCOUNTS}
use Rattle.bank.proofs.read_balances.Given as goal

abbrev pub invariant-loop-account : goal.invariant-loop-account
invariant-loop-account g l = record { count : vec_len l.balances ≡ l.account-counter; room : ACCOUNTS ≤ vec_capacity l.balances }
