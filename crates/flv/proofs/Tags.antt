-- Laws of tags: they are read off the front of some bytes, and only whole ones are.
use mathlib.Core.Path.{◌≡◌, refl, sym, ap, ap₂, ◌∙◌}
use mathlib.Core.Bool.{Bool, true, false, cond}
use mathlib.Core.List.{List, [], ◌∷◌, ◌++◌, append_assoc}
use Prim.Native.Nat.{ℕ, zero, suc, ◌+◌, ◌≤◌, ◌<◌}
use native.Mathlib.Omega.{arith}
use lib.ListN.{length, take, drop, length-append, length-take, length-drop, take-append-drop}
use lib.Seq.{take_at, drop_at, drop-drop}
use Rattle.std.proofs.lemmas.Bool.Decides.{nat_tests}
use Rattle.wire.specs.Wire.{part, be32_at}
use Rattle.types.specs.Types.{is_ok}
use Rattle.types.specs.declared.ErrorCode.{ErrorCode}
use Rattle.types.specs.declared.ErrorCode.TheVariants as error
use Rattle.flv.specs.Files.{Tag, tag_bytes, body_size, tag_refusal, tag_error, first_tag, behind_tag, Reading, stopped, with_tag, read_tags, tags_under, tags_of}
use Rattle.flv.specs.Grammar.{Whole}

-- THE FIRST TAG AND WHAT IS LEFT are the bytes
pub first_split : (s : List ℕ) → tag_bytes (first_tag s) ++ behind_tag s ≡ s
first_split s =
    let n : ℕ = body_size (take 11 s) in
    let c : 11 + n + 4 ≡ 15 + n = omega arith in
    append_assoc (take 11 s) (part s 11 n ++ part s (11 + n) 4) (behind_tag s)
    ∙ ap (λ (r : List ℕ). take 11 s ++ r)
    (append_assoc (part s 11 n) (part s (11 + n) 4) (behind_tag s)
    ∙ ap (λ (r : List ℕ). part s 11 n ++ r)
    (ap (λ (k : ℕ). part s (11 + n) 4 ++ drop k s) (sym c)
    ∙ ap (λ (r : List ℕ). part s (11 + n) 4 ++ r) (sym (drop-drop 4 (11 + n) s))
    ∙ take-append-drop 4 (drop (11 + n) s)
    ∙ sym (drop-drop n 11 s))
    ∙ take-append-drop n (drop 11 s))
    ∙ take-append-drop 11 s

-- HOW MANY TAGS ARE LOOKED FOR does not matter, if no fewer than bytes
module _ (refusal : Tag → ErrorCode) where
  pub fuel : (j k : ℕ) (s : List ℕ) → length s ≤ j → length s ≤ k → read_tags refusal j s ≡ read_tags refusal k s
  unfolding read_tags
  fuel zero zero s a b = refl
  fuel zero (suc k) [] a b = refl
  fuel zero (suc k) (x ∷ s) a b = absurd (omega arith)
  fuel (suc j) zero [] a b = refl
  fuel (suc j) zero (x ∷ s) a b = absurd (omega arith)
  fuel (suc j) (suc k) [] a b = refl
  fuel (suc j) (suc k) (x ∷ s) a b =
      let l = length-drop (15 + body_size (take 11 (x ∷ s))) (x ∷ s) in
      go (is_ok (refusal (first_tag (x ∷ s)))) (fuel j k (behind_tag (x ∷ s)) (omega arith) (omega arith))
    where
      go : (b : Bool) → read_tags refusal j (behind_tag (x ∷ s)) ≡ read_tags refusal k (behind_tag (x ∷ s))
          → ◌≡◌ {A = Reading} (elim b [ true ↦ with_tag (first_tag (x ∷ s)) (read_tags refusal j (behind_tag (x ∷ s))) | false ↦ stopped (refusal (first_tag (x ∷ s))) ])
          (elim b [ true ↦ with_tag (first_tag (x ∷ s)) (read_tags refusal k (behind_tag (x ∷ s))) | false ↦ stopped (refusal (first_tag (x ∷ s))) ])
      go true e = ap (with_tag (first_tag (x ∷ s))) e
      go false e = refl

  -- TAG BY TAG: the tags of some bytes are the first and the tags of what is left, or the reading stops
  pub tags_none : tags_under refusal [] ≡ stopped error.Ok
  unfolding read_tags
  tags_none = refl

  pub tags_step : (s : List ℕ) → 0 < length s
      → tags_under refusal s ≡ cond (is_ok (refusal (first_tag s))) (with_tag (first_tag s) (tags_under refusal (behind_tag s))) (stopped (refusal (first_tag s)))
  unfolding read_tags
  tags_step [] l = absurd (omega arith)
  tags_step (x ∷ s) l =
      let d = length-drop (15 + body_size (take 11 (x ∷ s))) (x ∷ s) in
      go (is_ok (refusal (first_tag (x ∷ s)))) (fuel (length s) (length (behind_tag (x ∷ s))) (behind_tag (x ∷ s)) (omega arith) (omega arith))
    where
      go : (b : Bool) → read_tags refusal (length s) (behind_tag (x ∷ s)) ≡ tags_under refusal (behind_tag (x ∷ s))
          → ◌≡◌ {A = Reading} (elim b [ true ↦ with_tag (first_tag (x ∷ s)) (read_tags refusal (length s) (behind_tag (x ∷ s))) | false ↦ stopped (refusal (first_tag (x ∷ s))) ])
          (cond b (with_tag (first_tag (x ∷ s)) (tags_under refusal (behind_tag (x ∷ s)))) (stopped (refusal (first_tag (x ∷ s)))))
      go true e = ap (with_tag (first_tag (x ∷ s))) e
      go false e = refl

-- WHOLE TAGS are those that are not refused
pub whole_fine : (t : Tag) → Whole t → tag_error t ≡ error.Ok
unfolding tag_refusal
whole_fine t w = grind (arith, nat_tests)

-- what was read of a tag that is not refused
pub record Taken (t : Tag) : Type 0 where
  pub head : 11 ≤ length t.head
  pub body : body_size t.head ≤ length t.body
  pub pointer : 4 ≤ length t.pointer
  pub points : be32_at t.pointer 0 ≡ body_size t.head + 11

pub fine_taken : (t : Tag) → is_ok (tag_error t) ≡ true → Taken t
unfolding tag_refusal
fine_taken t e =
    record {
      head = grind (arith, nat_tests);
      body = grind (arith, nat_tests);
      pointer = grind (arith, nat_tests);
      points = grind (arith, nat_tests);
    }

-- of the first tag no more is read than it has
pub first_whole : (s : List ℕ) → is_ok (tag_error (first_tag s)) ≡ true → Whole (first_tag s)
first_whole s e =
    let f = fine_taken (first_tag s) e in
    let n : ℕ = body_size (take 11 s) in
    let b : length (part s 11 n) ≡ n = omega (arith, f.body, length-take n (drop 11 s)) in
    record {
      head = omega (arith, f.head, length-take 11 s);
      body = b;
      pointer = omega (arith, f.pointer, length-take 4 (drop (11 + n) s));
      points = f.points ∙ ap (λ (k : ℕ). k + 11) (sym b);
    }

-- and so it lies within the bytes
pub first_within : (s : List ℕ) → is_ok (tag_error (first_tag s)) ≡ true → length (first_tag s).body + 15 ≤ length s
first_within s e =
    let w = first_whole s e in
    let n : ℕ = body_size (take 11 s) in
    omega (arith, w.body, w.pointer, length-take 4 (drop (11 + n) s), length-drop (11 + n) s)

-- where the bytes end inside it
pub cut_short : (s : List ℕ) → length s < 15 + body_size (take 11 s) → tag_error (first_tag s) ≡ error.Truncated
unfolding tag_refusal
cut_short s l = grind (arith, nat_tests, length-take {A = ℕ}, length-drop {A = ℕ})

-- A TAG IN FRONT, its back-pointer right or wrong, is read off
module _ (t : Tag) (eleven : length t.head ≡ 11) (sized : length t.body ≡ body_size t.head) (four : length t.pointer ≡ 4) (s : List ℕ) where
  abbrev here : List ℕ
  here = tag_bytes t ++ s

  here_split : here ≡ t.head ++ (t.body ++ (t.pointer ++ s))
  here_split = append_assoc t.head (t.body ++ t.pointer) s ∙ ap (λ (r : List ℕ). t.head ++ r) (append_assoc t.body t.pointer s)

  here_head : take 11 here ≡ t.head
  here_head = ap (take 11) here_split ∙ take_at t.head (t.body ++ (t.pointer ++ s)) 11 eleven

  here_size : body_size (take 11 here) ≡ length t.body
  here_size = ap body_size here_head ∙ sym sized

  behind_head : drop 11 here ≡ t.body ++ (t.pointer ++ s)
  behind_head = ap (drop 11) here_split ∙ drop_at t.head (t.body ++ (t.pointer ++ s)) 11 eleven

  behind_body : drop (11 + length t.body) here ≡ t.pointer ++ s
  behind_body = sym (drop-drop (length t.body) 11 here) ∙ ap (drop (length t.body)) behind_head ∙ drop_at t.body (t.pointer ++ s) (length t.body) refl

  first_here : first_tag here ≡ t
  first_here =
      rw (here_size, here_head, behind_head, behind_body, take_at t.body (t.pointer ++ s) (length t.body) refl, take_at t.pointer s 4 four) refl

  behind_here : behind_tag here ≡ s
  behind_here =
      let c : 15 + length t.body ≡ 11 + length t.body + 4 = omega arith in
      ap (λ (n : ℕ). drop (15 + n) here) here_size ∙ ap (λ (n : ℕ). drop n here) c ∙ sym (drop-drop 4 (11 + length t.body) here) ∙ ap (drop 4) behind_body ∙ drop_at t.pointer s 4 four

  pub long_placed : length (tag_bytes t) ≡ length t.body + 15
  long_placed = simp length-append (omega (arith, eleven, four))

  pub tags_placed : (refusal : Tag → ErrorCode) → tags_under refusal here ≡ cond (is_ok (refusal t)) (with_tag t (tags_under refusal s)) (stopped (refusal t))
  tags_placed refusal =
      tags_step refusal here (omega (arith, length-append (tag_bytes t) s, long_placed))
      ∙ ap₂ (λ (u : Tag) (r : List ℕ). cond (is_ok (refusal u)) (with_tag u (tags_under refusal r)) (stopped (refusal u))) first_here behind_here

-- A WHOLE ONE is read
module _ (t : Tag) (w : Whole t) (s : List ℕ) where
  pub long_here : length (tag_bytes t) ≡ length t.body + 15
  long_here = long_placed t w.head w.body w.pointer s

  pub tags_here : (refusal : Tag → ErrorCode) → tags_under refusal (tag_bytes t ++ s) ≡ cond (is_ok (refusal t)) (with_tag t (tags_under refusal s)) (stopped (refusal t))
  tags_here = tags_placed t w.head w.body w.pointer s

  pub tags_whole : tags_of (tag_bytes t ++ s) ≡ with_tag t (tags_of s)
  tags_whole = tags_here tag_error ∙ rw (whole_fine t w) refl
