-- A table is read back whole by a read that is lent pens alone, whichever its size: no record is lost, and none is refused.
--     formed_whole     the table of a well-formed state
--     run_whole        the table of any list of calls from the fresh state: its accounts
--     run_lookup       so the writer lookup after it names the first instance of those accounts that the writer writes
use Prim.Native.Nat.{ℕ, ◌*◌}
use mathlib.Core.Bool.{true}
use mathlib.Core.List.{List}
use mathlib.Core.Path.{◌≡◌, sym, ap, ◌∙◌, subst}
use borrow.Author.Tests.{eq-eqb}
use lib.ListN.{length}
use Rattle.octets.specs.Lay.{All}
use Rattle.model.specs.declared.Guid.{Guid}
use Rattle.model.specs.declared.Instance.{Instance}
use Rattle.model.specs.Call.{call_in, call_of}
use Rattle.model.specs.Reads.{table_of, table_refusal, handle_found, first_written, lookup_read}
use Rattle.model.specs.State.{Lent, State, figure_ok, places_in, fresh, lay_out, state_of, instances_in}
use Rattle.model.specs.WellFormed.{well_formed}
use Rattle.model.proofs.Figures.{places-in}
use Rattle.model.proofs.StateLaws.{read_back}
use Rattle.accounts.specs.Accounts.{Accounts, accounts_of, Lending, final, history, SheetBytes, instances_in as accounted}
use Rattle.accounts.proofs.Demand3.{after-fresh, formed, instances_are}
use Rattle.accounts.proofs.InStep.{InStep, held_fits, laid_sizes}
use Rattle.accounts.proofs.Runs.{left_in, told_in}
use Rattle.read_laws.proofs.Tables.{formed-used, formed-table}

-- lent these pens alone, a read refuses nothing and finds the instances xs
pub record ReadWhole (pens : List ℕ) (xs : List Instance) : Type 0 where
  pub accepted : table_refusal (places_in pens) pens ≡ 0
  pub instances : table_of (places_in pens) pens ≡ xs

module _ (places : ℕ) (ok : figure_ok places ≡ true) (l : Lent) (size : length l.pens ≡ places * 512) (formed : well_formed places l ≡ true) where
  pub formed_whole : ReadWhole l.pens (instances_in l.head.instance_count l.pens)
  formed_whole =
      let same : places_in l.pens ≡ places = places-in places l.pens ok size in
      record {
        accepted = ap (λ (n : ℕ). table_refusal n l.pens) same ∙ unfold table_refusal in
            rw (eq-eqb (length l.pens) (places * 512) size, formed-table places l formed);
        instances = ap (λ (n : ℕ). table_of n l.pens) same ∙ unfold table_of in
            ap (λ (n : ℕ). instances_in n l.pens) (formed-used places l formed);
      }

-- ---- any list of calls

module _ (places : ℕ) (ok : figure_ok places ≡ true) (st : State) (out : List ℕ) (acc : Accounts) (m : InStep places st acc) where
  abbrev l : Lent
  l = lay_out places st out

  laid_read : instances_in l.head.instance_count l.pens ≡ st.instances
  laid_read = unfold state_of in ap (λ (s : State). s.instances) (read_back places st out (held_fits places st acc m))

  laid_whole : ReadWhole l.pens (accounted acc)
  laid_whole =
      subst (ReadWhole l.pens) (laid_read ∙ instances_are places st acc m) (formed_whole places ok l (laid_sizes places st out (held_fits places st acc m)).pens (formed places st out acc m))

pub run_whole : (places : ℕ) → figure_ok places ≡ true → (is : List Lending) (out : List ℕ) → All SheetBytes is →
    ReadWhole (final call_of is (fresh places out)).pens (accounted (accounts_of (history call_of is (fresh places out))))
run_whole places ok is out b =
    let m = after-fresh places is out b in
    let xs : List Instance = accounted (accounts_of (history (call_in places) is (fresh places out))) in
    rw (left_in places ok is out, told_in places ok is out)
    (subst (λ (k : Lent). ReadWhole k.pens xs) (sym m.laid) (laid_whole places ok m.state _ _ m.held))

-- ---- the writer lookup

whole_lookup : (pens : List ℕ) (xs : List Instance) → ReadWhole pens xs → (g : Guid) → lookup_read (places_in pens) pens g ≡ handle_found 0 (first_written g xs)
unfolding lookup_read
whole_lookup pens xs w g = rw (w.accepted, w.instances)

pub run_lookup : (places : ℕ) → figure_ok places ≡ true → (is : List Lending) (out : List ℕ) → All SheetBytes is → (g : Guid) →
    let pens = (final call_of is (fresh places out)).pens in
    lookup_read (places_in pens) pens g ≡ handle_found 0 (first_written g (accounted (accounts_of (history call_of is (fresh places out)))))
run_lookup places ok is out b = whole_lookup _ _ (run_whole places ok is out b)
