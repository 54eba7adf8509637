-- From what reading an image answers to the reply to its bytes.
use Rattle.rx_spec.proofs.Prelude.{arith, ◌≡◌, ◌≢◌, ℕ, Result, Err, refl, common_steps}
use Rattle.rx_wire.specs.Kinds.{FailsBy, Kind}
use Rattle.rx_main.specs.Lines.{Reply}
use Rattle.rx_main.specs.Check.{failed_test_reply, reading_reply}

module _ {T : Type 0} (read : Result (T × ℕ) Kind) where
  -- an error that isn't want of memory is the test that fails first
  fails_exactly : (kind : Kind) → FailsBy kind read → kind ≢ Kind.Memory → read ≡ Err kind
  fails_exactly Kind.Memory fails other = absurd (other refl)
  fails_exactly _ fails other = fails

  pub failed_test_answers : (accepted : T → ℕ → Reply) (kind : Kind) (reply : Reply) → FailsBy kind read
      → kind ≢ Kind.Memory → reply ≡ failed_test_reply kind → reply ≡ reading_reply accepted read
  failed_test_answers accepted kind reply fails other e = grind (arith, common_steps, fails_exactly)
