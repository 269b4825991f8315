-- `boundary_reads::write_key_hash` meets its contract.
use mathlib.Core.Path.{◌≡◌, ◌∙◌}
use native.Mathlib.Omega.{arith}
use lib.ListN.{length}
use Rattle.boundary_reads.proofs.Telling.{hash_put}
use borrow.Author.Rules.{rules}
use Rattle.boundary_reads.proofs.write_key_hash.Goals as goal

many : (c : goal.After-copy-arg-1) → length c.args.k.hash ≡ 16
many c = search rules

many_2 : (c : goal.After-slice_known-4-1) → length c.args.k.hash ≡ 16
many_2 c = search rules

pub copy-requires : goal.copy-requires
copy-requires c =
    let n = many c in
    (omega arith, omega arith)

pub returns : goal.returns
returns c =
    c.copy.ensures ∙ rw (c.store.ensures, c.put_u8.ensures) (hash_put c.args.k c.args.answer.now c.requires (many_2 c))
