-- A GUID that was seen at a place of a list is found there.
use Prim.Native.Nat.{ℕ, ◌*◌, ◌/◌, ◌<◌}
use mathlib.Core.Bool.{true}
use mathlib.Core.List.{List}
use mathlib.Core.Path.{◌≡◌, sym, ap, ◌∙◌}
use native.Mathlib.Omega.{arith}
use borrow.Author.Tests.{eqb-true}
use lib.ListN.{length}
use Rattle.model.specs.declared.Guid.{Guid}
use Rattle.model.specs.Guids.{num, same, guid_at}
use Rattle.std.specs.Prelude.{Ok}
use Rattle.tables.specs.Found.{found_in}
use Rattle.tables.specs.Keys.{keys}
use Rattle.tables.proofs.FoundLaws.{key_found}
use Rattle.tables.proofs.KeyLaws.{length-keys, get_or-keys}
use Rattle.writer_set_bytes.specs.Lists.{Listed}
use Rattle.writer_set_bytes.proofs.Starts.{keys_rise_lem}

pub guess_found : (gone : List ℕ) → Listed gone → (g : Guid) (j : ℕ) → j < length gone / 16 → (there : Guid) → there ≡ guid_at gone (j * 16) → same there g ≡ true →
    Ok j ≡ found_in (keys 16 (length gone / 16) gone) (num g)
guess_found gone listed g j h there at e =
    let n : ℕ = length gone / 16 in
    sym
    (key_found (keys 16 n gone) (num g) j (keys_rise_lem gone listed) (omega (arith, length-keys 16 n gone))
    (get_or-keys 16 n gone j h ∙ sym (ap num at) ∙ eqb-true (num there) (num g) e))
