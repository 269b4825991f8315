-- Where an instance stands in a table.
--     keys_read     the keys that `tables` reads are the instances' keys
--     rise_read     they rise by either test
--     key_only      the instance of a key that was found is the only one; a missing key is nowhere
use Rattle.std.proofs.Common.{◌≡◌, ℕ, ◌<◌, true, List, [], map, length, sym, ap, ◌∙◌, arith, ext_get_or}
use lib.ListN.{length-map}
use Rattle.model.specs.declared.Guid.{Guid}
use Rattle.model.specs.declared.Instance.{Instance}
use Rattle.model.specs.Guids.{num}
use Rattle.model.specs.InstanceRecord.{instance_of}
use Rattle.model.specs.Instances.{has_key}
use Rattle.model.specs.State.{instance_key, instances_in}
use Rattle.model.specs.Tables.{rising}
use Rattle.model.proofs.RowLaws.{length_read}
use Rattle.std.specs.Prelude.{Ok}
use Rattle.tables.specs.Found.{found_in}
use Rattle.tables.specs.Keys.{keys, rising as rise}
use Rattle.tables.proofs.KeyLaws.{length-keys, get_or-keys}
use Rattle.tables.specs.Places.{Only}
use Rattle.tables.proofs.Puts.{get_key, found_only}
use Rattle.tables.proofs.RecordLaws.{rising-records}
use Rattle.instance_table.proofs.Rows.{key_read}

pub keys_read : (n : ℕ) (t : List ℕ) → keys 512 n t ≡ map instance_key (instances_in n t)
keys_read n t =
    let c : length (instances_in n t) ≡ n = length_read instance_of 512 n t in
    ext_get_or 0 (keys 512 n t) (map instance_key (instances_in n t)) (length-keys 512 n t ∙ sym (length-map (instances_in n t) instance_key ∙ c))
    (λ i l.
    let h : i < n = omega (arith, length-keys 512 n t) in
    get_or-keys 512 n t i h ∙ sym (get_key instance_key (instances_in n t) i (instance_of []) (omega arith) ∙ ap num (key_read n t i h)))

pub rise_read : (n : ℕ) (t : List ℕ) → rise (keys 512 n t) ≡ rising instance_key (instances_in n t)
rise_read n t = ap rise (keys_read n t) ∙ rising-records instance_key (instances_in n t)

-- ---- what was found, by model's own tests

module _ (xs : List Instance) (d : Instance) where
  pub key_only : (k : Guid) (i : ℕ) → rising instance_key xs ≡ true → found_in (map instance_key xs) (num k) ≡ Ok i → Only (has_key k) xs i d
  key_only k i r f = found_only instance_key xs d r (num k) i f
