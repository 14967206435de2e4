-- `puts::bytes::Text::put_word` meets its contract: what of the word lies past the end isn't stored.
-- Assumes nothing.
use Rattle.std.proofs.Common.{rules}
use Prim.Native.Nat.{◌+◌, ◌-◌, min}
use native.Mathlib.Omega.{arith}
use mathlib.Core.Path.{◌≡◌, refl, sym}
use lib.ListN.{length}
use Rattle.puts.proofs.PutLaws.{copied, sets_out}
use Rattle.puts.proofs.bytes.Text.put_word.Goals as goal
use Rattle.puts.proofs.bytes.Text.put_word.Goals.{then-self, else-self}

pub returns : goal.returns
returns c =
    let t = c.args.self.now.bytes.now in
    let i = c.args.self.now.place in
    elim c.if-self.branch [
      | then-self w ↦
          let n = w.min-fitting.result in
          let fitting : n ≡ min (length c.args.word.now) (length t - i) = w.min-fitting.ensures in
          rw w.self-is (record {
            stands = copied t c.args.word.now _ i (i + n - i) n (omega arith) (omega arith) (λ h. omega arith) (omega arith) (search rules);
            behind = refl;
            same_buffer = refl;
          })
      | else-self w ↦ rw w.self-is (record { stands = sym (sets_out t i c.args.word.now (omega arith)); behind = refl; same_buffer = refl })
    ]
