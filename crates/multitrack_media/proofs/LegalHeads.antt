-- A LEGAL HEAD IN WORDS, and that a container that names itself has none: it is refused.
use mathlib.Core.Path.{◌≡◌, refl, sym, ap, ◌∙◌}
use mathlib.Core.Bool.{true, not, ◌&&◌, or-false}
use mathlib.Core.Option.{Option, none, some}
use mathlib.Core.List.{List}
use Prim.Native.Nat.{ℕ, zero, suc, ◌%◌, ◌≤◌}
use native.Mathlib.Omega.{arith}
use lib.Dec.{eqb, leb}
use borrow.Author.Tests.{eqb-true, leb-true, le-leb, ne_eqb, eq-eqb}
use Rattle.wire.specs.Wire.{byte_at, bit, high, low}
use Rattle.wire.proofs.Bools.{and_left, and_right, true_or_false}
use Rattle.multitrack_media.specs.Container.{opens_container, own_number, legal_head, Container, container_of}
use Rattle.multitrack_media.specs.Acceptance.{LegalHead}
use Rattle.multitrack_media.proofs.Containers.{container_found}
use Rattle.multitrack_media.proofs.Answers.{opens_media, legal_opens}

-- a container's own number is byte 0's low nibble
pub own_nibble : (type b : ℕ) → opens_container type b ≡ true → low b ≡ own_number type
unfolding opens_container
own_nibble type b e = go type (opens_media type b e) e
  where
    go : (type : ℕ) → type ≤ 1 → opens_container type b ≡ true → low b ≡ own_number type
    go zero l e = ap low (eqb-true b 0x95 (sym (or-false (eqb b 0x95)) ∙ e))
    go (suc zero) l e =
        eqb-true (low b) 6 (and_right (not (eqb (high b % 8) 5)) (eqb (low b) 6) (and_right (bit 7 b) (not (eqb (high b % 8) 5) && eqb (low b) 6) e))
    go (suc (suc n)) l e = absurd (omega arith)

-- byte 1: a form, and another packet type
module _ (type b0 b1 : ℕ) where
  pub head_legal : opens_container type b0 ≡ true → high b1 ≤ 2 → (low b1 ≡ own_number type → ⊥) → legal_head type b0 b1 ≡ true
  unfolding legal_head
  head_legal e h n = simp (e, le-leb _ _ h, ne_eqb _ _ n)

  module _ (e : legal_head type b0 b1 ≡ true) where
    second : (leb (high b1) 2 && not (eqb (low b1) (own_number type))) ≡ true
    unfolding legal_head
    second = and_right (opens_container type b0) _ e

    pub legal_form : high b1 ≤ 2
    legal_form = leb-true _ _ (and_left (leb (high b1) 2) _ second)

    pub legal_other : low b1 ≡ own_number type → ⊥
    legal_other n = true_or_false (and_right (leb (high b1) 2) _ second) (ap not (eq-eqb _ _ n))

pub legal_head_lem : LegalHead
unfolding LegalHead
legal_head_lem type b0 b1 = (
  λ e. let o = legal_opens type b0 b1 e in (o, legal_form type b0 b1 e, λ n. legal_other type b0 b1 e (n ∙ own_nibble type b0 o)),
  λ w. head_legal type b0 b1 w.0 w.1 (λ n. w.2 (n ∙ sym (own_nibble type b0 w.0))),
)

-- A CONTAINER THAT NAMES ITSELF is none
pub nested_none : (type : ℕ) (p : List ℕ) → low (byte_at p 1) ≡ low (byte_at p 0) → container_of type p ≡ none
unfolding LegalHead
nested_none type p n = go (container_of type p) refl
  where
    go : (o : Option Container) → container_of type p ≡ o → container_of type p ≡ none
    go none q = q
    go (some c) q = absurd (((legal_head_lem type (byte_at p 0) (byte_at p 1)).0 (container_found type p c q).legal).2 n)
