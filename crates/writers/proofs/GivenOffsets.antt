-- THE OFFSETS OF WRITTEN LAYERS are those that were given, and what the whole pass then reports.
use mathlib.Core.Path.{◌≡◌, refl, sym, ap, ap₂, ◌∙◌}
use mathlib.Core.Bool.{Bool, true, false, cond, ◌&&◌, ◌||◌}
use mathlib.Core.List.{List, [], ◌∷◌}
use Prim.Native.Nat.{ℕ, zero, suc, ◌+◌, ◌-◌, ◌≤◌, ◌<◌}
use native.Mathlib.Decide.{dec_lt}
use native.Mathlib.Omega.{arith}
use lib.Dec.{eqb, ltb}
use lib.ListN.{length, drop}
use lib.Seq.{get_or-take, get_or-drop}
use borrow.Author.Tests.{lt-ltb, le-ltb, ne_eqb, ltb-false}
use Rattle.wire.specs.Wire.{byte_at, part, bit, low, be24_at}
use Rattle.wire.proofs.Bools.{or_no_left, or_no_right}
use Rattle.wire.proofs.Parts.{length_part}
use Rattle.modex.specs.Modex.{layers_at, peeled_layers}
use Rattle.modex.specs.Offsets.{any_bad, last_offset, has_bad_offset, chain_offset}
use Rattle.modex.specs.declared.ModexLayer.{ModexLayer}
use Rattle.modex.proofs.Laws.{layer_facts_lem, layers_last, layers_more}
use Rattle.frame.specs.Pass.{pass_error, result_report, report_by, pass_report}
use Rattle.types.specs.declared.ErrorCode.{ErrorCode}
use Rattle.types.specs.declared.ErrorCode.TheVariants as error
use Rattle.writers.specs.Columns.{values_from}
use Rattle.writers.specs.ModexWriter.{ModexCall, GivenLayer, given_layer, given_layers, modex_written}
use Rattle.writers.specs.Claims.{
  layer_there,
  WritableModex,
  LayersStand,
  none,
  layer,
  is_given_bad,
  given_bad,
  given_offset,
  BadOffsetBack,
  OffsetBack,
  PassAlike,
  PassSame,
}
use Rattle.writers.proofs.ModexRefusals.{modex_fine}
use Rattle.writers.proofs.Peeling.{layers_back_lem, chain_peeled, peeled_back_lem, no_chain, unwrapped}

-- ONE LAYER: its data stand in s, so its offset is read there, if it has three bytes
module _ (s : List ℕ) (from to : ℕ) (content : List ℕ) (some : from < to) (room : to < length s) (p : part s from (to - from) ≡ content) where
  size : length content ≡ to - from
  size = ap length (sym p) ∙ length_part s from (to - from) (omega arith)

  byte : (j : ℕ) → j < to - from → byte_at s (from + j) ≡ byte_at content j
  byte j h = sym (get_or-drop from s j 0) ∙ sym (get_or-take (to - from) (drop from s) j 0 h) ∙ ap (λ (r : List ℕ). byte_at r j) p

  offset_read : 3 ≤ length content → be24_at s from ≡ be24_at content 0
  offset_read h =
      let z : from + 0 ≡ from = omega arith in
      let a : byte_at s from ≡ byte_at content 0 = ap (byte_at s) (sym z) ∙ byte 0 (omega (arith, size)) in
      let b : byte_at s (from + 1) ≡ byte_at content 1 = byte 1 (omega (arith, size)) in
      let c : byte_at s (from + 2) ≡ byte_at content 2 = byte 2 (omega (arith, size)) in
      omega (arith, a, b, c)

  bad_read : (ltb (to - from) 3 || ltb 999999 (be24_at s from)) ≡ (ltb (length content) 3 || ltb 999999 (be24_at content 0))
  bad_read = go (dec_lt (length content) 3)
    where
      go : Dec (length content < 3) → (ltb (to - from) 3 || ltb 999999 (be24_at s from)) ≡ (ltb (length content) 3 || ltb 999999 (be24_at content 0))
      go (yes h) = rw (← size, lt-ltb (length content) 3 h) refl
      go (no h) = ap₂ (λ (n o : ℕ). ltb n 3 || ltb 999999 o) (sym size) (offset_read (omega arith))

  -- the offset behind it, if it is not bad
  after_read : (type before : ℕ) → (eqb type 0 && (ltb (length content) 3 || ltb 999999 (be24_at content 0))) ≡ false
      → cond (eqb type 0) (be24_at s from) before ≡ cond (eqb type 0) (be24_at content 0) before
  after_read type before = go (eqb type 0)
    where
      go : (t : Bool) → (t && (ltb (length content) 3 || ltb 999999 (be24_at content 0))) ≡ false → cond t (be24_at s from) before ≡ cond t (be24_at content 0) before
      go true fine = offset_read (ltb-false (length content) 3 (or_no_left (ltb (length content) 3) (ltb 999999 (be24_at content 0)) fine))
      go false fine = refl

-- ALL LAYERS: layers that are read, and given ones with the same offsets
record SameOffsets (s : List ℕ) (ms : List ModexLayer) (ls : List GivenLayer) : Type 0 where
  bad : any_bad s ms ≡ given_bad ls
  last : (before : ℕ) → given_bad ls ≡ false → last_offset before s ms ≡ given_offset before ls

same_none : (s : List ℕ) → SameOffsets s [] []
unfolding any_bad given_bad last_offset given_offset
same_none s = record { bad = refl; last = λ before fine. refl }

same_more : (s : List ℕ) (next from to end : ℕ) (l : GivenLayer) (ms : List ModexLayer) (ls : List GivenLayer) → from < to → to < length s → part s from (to - from) ≡ l.content
    → SameOffsets s ms ls → SameOffsets s (layer_there l.type next from to end ∷ ms) (l ∷ ls)
unfolding any_bad given_bad last_offset given_offset
same_more s next from to end l ms ls some room p same =
    record { bad = ap₂ (λ (x y : Bool). (eqb l.type 0 && x) || y) (bad_read s from to l.content some room p) same.bad; last = go }
  where
    go : (before : ℕ) → given_bad (l ∷ ls) ≡ false → last_offset before s (layer_there l.type next from to end ∷ ms) ≡ given_offset before (l ∷ ls)
    go before fine =
        ap (λ (o : ℕ). last_offset o s ms) (after_read s from to l.content some room p l.type before (or_no_left (is_given_bad l) (given_bad ls) fine))
        ∙ same.last (cond (eqb l.type 0) (be24_at l.content 0) before) (or_no_right (is_given_bad l) (given_bad ls) fine)

-- those that stand in s, read as a chain
module _ (s : List ℕ) (last : ℕ) (other : last ≡ 7 → ⊥) where
  same_stand : {at stop : ℕ} {ls : List GivenLayer} → LayersStand s last at ls stop → 0 < length ls → (k : ℕ) → length ls ≤ k → SameOffsets s (layers_at k s at) ls
  same_stand none l k m = absurd (omega arith)
  same_stand (layer from to e p z more) l zero m = absurd (omega arith)
  same_stand {at = at} (layer {l = g} from to e p z none) l (suc k) m =
      let w = layer_facts_lem s at _ e in
      rw (layers_last s k at _ e other) (same_more s _ from to _ g [] [] w.some w.room p (same_none s))
  same_stand {at = at} (layer {l = g} from to e p z (layer {l = g'} {ls = ls} from' to' e' p' z' more)) l (suc k) m =
      let w = layer_facts_lem s at _ e in
      rw (layers_more s k at _ e refl)
      (same_more s _ from to _ g _ (g' ∷ ls) w.some w.room p (same_stand (layer from' to' e' p' z' more) (omega arith) k (omega arith)))

-- THE WHOLE PASS: a report looks at the offset only if nothing is refused
report_offset : (short bad : Bool) (type flag o o' : ℕ) (r : List ℕ) → (bad ≡ false → o ≡ o')
    → report_by (cond short error.OutputTooShort (cond bad error.Protocol error.Ok)) type flag o r
    ≡ report_by (cond short error.OutputTooShort (cond bad error.Protocol error.Ok)) type flag o' r
report_offset true bad type flag o o' r h = refl
report_offset false true type flag o o' r h = refl
report_offset false false type flag o o' r h = ap (λ (x : ℕ). result_report type flag x r) (h refl)

module _ (c : ModexCall) (f : WritableModex c) (mask : ℕ) (m : bit 2 mask ≡ true) where
  abbrev w : List ℕ
  w = modex_written c

  abbrev ls : List GivenLayer
  ls = given_layers c

  same_here : SameOffsets w (peeled_layers c.type mask w) ls
  unfolding peeled_layers
  same_here =
      let b = layers_back_lem c f in
      rw (chain_peeled c f mask m) (same_stand w (low (byte_at c.payload 0)) f.other b.stand (omega (arith, b.count, f.least)) 32 (omega (arith, b.count, f.limit)))

  bad_back : has_bad_offset c.type mask w ≡ given_bad ls
  unfolding has_bad_offset
  bad_back = same_here.bad

  offset_back_lem : given_bad ls ≡ false → chain_offset c.type mask w ≡ given_offset 0 ls
  unfolding chain_offset
  offset_back_lem fine = same_here.last 0 fine

  module _ (flag output : ℕ) where
    abbrev short : Bool
    short = ltb output (length c.payload)

    pass_error_lem : pass_error c.type mask w output ≡ cond short error.OutputTooShort (cond (given_bad ls) error.Protocol error.Ok)
    unfolding pass_error
    pass_error_lem = simp (le-ltb 3 c.type f.known, peeled_back_lem c f mask m, bad_back)

    pass_alike_lem : pass_report c.type mask flag w output
        ≡ report_by (cond short error.OutputTooShort (cond (given_bad ls) error.Protocol error.Ok)) c.type flag (given_offset 0 ls) c.payload
    unfolding pass_report
    pass_alike_lem =
        ap₂ (λ (e : ErrorCode) (r : List ℕ). report_by e c.type flag (chain_offset c.type mask w) r) pass_error_lem (peeled_back_lem c f mask m)
        ∙ report_offset short (given_bad ls) c.type flag (chain_offset c.type mask w) (given_offset 0 ls) c.payload offset_back_lem

    -- of the payload itself, from which nothing is peeled off
    pass_payload_lem : pass_report c.type mask flag c.payload output ≡ report_by (cond short error.OutputTooShort error.Ok) c.type flag 0 c.payload
    unfolding pass_report pass_error has_bad_offset chain_offset peeled_layers any_bad last_offset
    pass_payload_lem = simp (le-ltb 3 c.type f.known, unwrapped c.type mask c.payload f.other, no_chain c.type mask c.payload f.other)

-- LAYERS OF OTHER TYPES have no offset
module _ (g : ℕ → GivenLayer) where
  none_bad : (i n : ℕ) → ((j : ℕ) → i ≤ j → j < i + n → (g j).type ≡ 0 → ⊥) → given_bad (values_from g i n) ≡ false
  unfolding values_from given_bad
  none_bad i zero h = refl
  none_bad i (suc n) h = simp (ne_eqb _ _ (h i (omega arith) (omega arith))) (none_bad (i + 1) n (λ j l m. h j (omega arith) (omega arith)))

  none_offset : (i n before : ℕ) → ((j : ℕ) → i ≤ j → j < i + n → (g j).type ≡ 0 → ⊥) → given_offset before (values_from g i n) ≡ before
  unfolding values_from given_offset
  none_offset i zero before h = refl
  none_offset i (suc n) before h =
      ap (λ (t : Bool). given_offset (cond t (be24_at (g i).content 0) before) (values_from g (i + 1) n)) (ne_eqb (g i).type 0 (h i (omega arith) (omega arith)))
      ∙ none_offset (i + 1) n before (λ j l m. h j (omega arith) (omega arith))

-- THE CLAIMS
pub modex_bad_offset_back : BadOffsetBack
unfolding BadOffsetBack
modex_bad_offset_back c room mask ok m = bad_back c (modex_fine c room ok).0 mask m

pub modex_offset_back : OffsetBack
unfolding OffsetBack
modex_offset_back c room mask ok m fine = offset_back_lem c (modex_fine c room ok).0 mask m fine

pub modex_pass_alike : PassAlike
unfolding PassAlike
modex_pass_alike c room mask ok m flag output = pass_alike_lem c (modex_fine c room ok).0 mask m flag output

pub modex_pass_same : PassSame
unfolding PassSame
modex_pass_same c room mask ok m others flag output =
    let f = (modex_fine c room ok).0 in
    let fine : given_bad (given_layers c) ≡ false = none_bad (given_layer c) 0 c.count (λ j l k. others j (omega arith)) in
    let none : given_offset 0 (given_layers c) ≡ 0 = none_offset (given_layer c) 0 c.count 0 (λ j l k. others j (omega arith)) in
    pass_alike_lem c f mask m flag output
    ∙ ap₂ (λ (b : Bool) (o : ℕ). report_by (cond (ltb output (length c.payload)) error.OutputTooShort (cond b error.Protocol error.Ok)) c.type flag o c.payload) fine none
    ∙ sym (pass_payload_lem c f mask m flag output)
