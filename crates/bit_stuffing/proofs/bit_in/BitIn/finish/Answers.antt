use Rattle.std.proofs.Common.{◌≡◌, ℕ, ◌<◌, ◌≤◌, length, take, sym, ap, arith, Ok, Result, refl}
use Rattle.bit_stuffing.specs.Stuffing.{Stuffs}
use Rattle.bit_stuffing.specs.Source.{BitSource}
use Rattle.bit_stuffing.specs.declared.fault.BitFault.{BitFault}
use Rattle.bit_stuffing.proofs.TakeLemmas.{only_opened, only_next, stuffs_opened, stuffs_next}
use Rattle.bit_stuffing.proofs.TakeLemmas.{end_fault, broken_fault, is_broken-true, fault_along}
use Rattle.bit_stuffing.proofs.bit_in.BitIn.finish.Goals as goal

-- what holds of the fields' reader holds of the reader
used_along : (s t : BitSource) (n : ℕ) → s ≡ t → (n ≤ length s.bytes)
    × Stuffs s.taken (take n s.bytes) → (n ≤ length t.bytes) × Stuffs t.taken (take n t.bytes)
used_along s t n e h = rw (sym e) h

only_along : (s t : BitSource) (r : Result ℕ BitFault) → s ≡ t
    → ((n : ℕ) → n ≤ length s.bytes → Stuffs s.taken (take n s.bytes) → r ≡ Ok n)
    → (n : ℕ) → n ≤ length t.bytes → Stuffs t.taken (take n t.bytes) → r ≡ Ok n
only_along s t r e h = rw (sym e) h

pub returns-then-self-clause-used : goal.returns-then-self-clause-used
returns-then-self-clause-used c =
    used_along _ _ _ c.self.view_is (
      c.self.invariant.within,
      stuffs_opened _ _ _ _ c.self.invariant c.if-self.true,
    )

pub returns-then-self-clause-only : goal.returns-then-self-clause-only
returns-then-self-clause-only c =
    only_along _ _ _ c.self.view_is (λ n h s.
    ap Ok (sym (only_opened _ _ _ _ n c.self.invariant h s c.if-self.true)))

pub returns-then-place-self-clause-only : goal.returns-then-place-self-clause-only
returns-then-place-self-clause-only c =
    only_along _ _ _ c.self.view_is (λ n h s.
    absurd (let next = only_next _ _ _ _ n c.self.invariant h s (omega arith) in let l = next.1 in
    omega arith))

pub returns-then-place-self-clause-fault : goal.returns-then-place-self-clause-fault
returns-then-place-self-clause-fault c = fault_along _ _ _ c.self.view_is
    (end_fault _ _ _ _ c.self.invariant c.if-place-self.true)

pub returns-then-self-place-ge128-clause-only : goal.returns-then-self-place-ge128-clause-only
returns-then-self-place-ge128-clause-only c =
    only_along _ _ _ c.self.view_is (λ n h s.
    absurd (let next = only_next _ _ _ _ n c.self.invariant h s (omega arith) in let l = next.2 in
    omega arith))

pub returns-then-self-place-ge128-clause-fault : goal.returns-then-self-place-ge128-clause-fault
returns-then-self-place-ge128-clause-fault c =
    let inside : c.self.inside.opened < length c.self.inside.bytes.now =
    omega (arith, c.self.invariant.within) in
    fault_along _ _ _ c.self.view_is (broken_fault _ _ _ _ _ c.self.invariant inside refl
    (is_broken-true _ _ (omega arith) c.if-self-place-ge128.true))

pub returns-clause-used : goal.returns-clause-used
returns-clause-used c =
    let inside : c.self.inside.opened < length c.self.inside.bytes.now =
    omega (arith, c.self.invariant.within) in
    used_along _ _ _ c.self.view_is (
      omega arith,
      stuffs_next _ _ _ _ c.self.invariant (omega arith)
          inside (omega arith),
    )

pub returns-clause-only : goal.returns-clause-only
returns-clause-only c =
    only_along _ _ _ c.self.view_is (λ n h s. let next =
    only_next _ _ _ _ n c.self.invariant h s (omega arith) in ap Ok (sym next.0))
