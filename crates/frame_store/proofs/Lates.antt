-- What a late viewer is sent: the frame of a number, by which slots hold one.
use mathlib.Core.Path.{◌≡◌, refl, sym, ap, ◌∙◌}
use mathlib.Core.Bool.{Bool, true, false, cond, ◌&&◌}
use mathlib.Core.Option.{none, some}
use mathlib.Core.List.{List, [], ◌∷◌, ◌++◌, append-nil}
use Prim.Native.Nat.{ℕ, zero, suc, ◌+◌, ◌-◌, ◌≤◌}
use native.Mathlib.Omega.{arith}
use lib.Dec.{eqb, leb, ltb}
use lib.ListN.{length, take, get_or, length-append}
use lib.Seq.{length-take-le}
use mir.Val.{bool_byte}
use borrow.Author.Tests.{ne_eqb, leb-true}
use Rattle.wire.proofs.Bools.{and_right}
use Rattle.init_cache.specs.declared.kind.CacheFrameKind.{CacheFrameKind}
use Rattle.init_cache.specs.declared.kind.CacheFrameKind.TheVariants.{LiveOnly, VideoSequenceHeader, AudioSequenceHeader, VideoKeyframe}
use Rattle.frame_store.specs.Store.{Store, is_held, held_in, held}
use Rattle.frame_store.specs.Late.{HeldFrame, held_as, late_frames, no_frame, late_frame, late_info}
use Rattle.frame_store.specs.declared.late.LateFrame.{LateFrame}
use Rattle.frame_store.specs.declared.late.LateInfo.{LateInfo}

held_inside : (n : ℕ) (buffer : List ℕ) → is_held n buffer ≡ true → n ≤ length buffer
unfolding is_held
held_inside n buffer e = leb-true n (length buffer) (and_right (ltb 0 n) (leb n (length buffer)) e)

-- kind and length of a frame
abbrev as_late : HeldFrame → LateFrame
as_late f = record { kind = f.kind; length = length f.bytes }

-- ONE SLOT before others: its frame is number 0 if it is held, and is not there if it is not
module _ (kind : CacheFrameKind) (n : ℕ) (buffer : List ℕ) (others : List HeldFrame) where
  late_step : (i : ℕ)
      → cond (is_held n buffer && eqb i 0) (record { kind = kind; length = n }) (as_late (get_or others (cond (is_held n buffer) (i - 1) i) no_frame))
      ≡ as_late (get_or (held_as kind (held_in n buffer) ++ others) i no_frame)
  late_step i = go (is_held n buffer) refl i
    where
      go : (b : Bool) → is_held n buffer ≡ b → (j : ℕ)
          → cond (b && eqb j 0) (record { kind = kind; length = n }) (as_late (get_or others (cond b (j - 1) j) no_frame))
          ≡ as_late (get_or (held_as kind (cond b (some (take n buffer)) none) ++ others) j no_frame)
      go true e zero = ap (λ (m : ℕ). record { kind = kind; length = m }) (sym (length-take-le n buffer (held_inside n buffer e)))
      go true e (suc j) = let p : suc j - 1 ≡ j = omega arith in rw (ne_eqb (suc j) 0 (λ z. omega arith), p) refl
      go false e j = refl

held_count : (kind : CacheFrameKind) (n : ℕ) (buffer : List ℕ) → length (held_as kind (held_in n buffer)) ≡ cond (is_held n buffer) 1 0
held_count kind n buffer = go (is_held n buffer)
  where
    go : (b : Bool) → length (held_as kind (cond b (some (take n buffer)) none)) ≡ cond b 1 0
    go true = refl
    go false = refl

late_counts : (s : Store)
    → cond (is_held s.lengths.video s.video) 1 0 + cond (is_held s.lengths.audio s.audio) 1 0 + cond (is_held s.lengths.keyframe s.keyframe) 1 0 ≡ length (late_frames s)
unfolding late_frames held
late_counts s =
    simp length-append
    (omega (
      arith,
      held_count VideoSequenceHeader s.lengths.video s.video,
      held_count AudioSequenceHeader s.lengths.audio s.audio,
      held_count VideoKeyframe s.lengths.keyframe s.keyframe,
    ))

-- a truth as a count
as_count : (b : Bool) (x : ℕ) → x ≡ bool_byte b → x ≡ cond b 1 0
as_count true x e = e
as_count false x e = e

-- THE ANSWER, from which slots hold a frame, the number of the asked one among those behind the first slot and behind the second, and what was chosen
module _ (s : Store) (i : ℕ) (video audio keyframe : Bool) where
  pub late_answer :
      video ≡ is_held s.lengths.video s.video → audio ≡ is_held s.lengths.audio s.audio → keyframe ≡ is_held s.lengths.keyframe s.keyframe
      → (j k : ℕ) → j ≡ cond video (i - 1) i → k ≡ cond audio (j - 1) j
      → (first second third : LateFrame) → third ≡ cond (keyframe && eqb k 0) (record { kind = VideoKeyframe; length = s.lengths.keyframe }) (record { kind = LiveOnly; length = 0 })
      → second ≡ cond (audio && eqb j 0) (record { kind = AudioSequenceHeader; length = s.lengths.audio }) third
      → first ≡ cond (video && eqb i 0) (record { kind = VideoSequenceHeader; length = s.lengths.video }) second
      → (x y z : ℕ) → x ≡ bool_byte video → y ≡ bool_byte audio → z ≡ bool_byte keyframe
      → record { count = x + y + z; kind = first.kind; length = first.length } ≡ late_info s i
  unfolding late_info late_frame late_frames held
  late_answer v a k j m dj dm first second third dt ds df x y z dx dy dz =
      let after-audio = late_step VideoKeyframe s.lengths.keyframe s.keyframe [] m in
      let third-is : third ≡ as_late (get_or (held_as VideoKeyframe (held 3 s)) m no_frame) = dt ∙ rw k (after-audio ∙ rw append-nil refl) in
      let second_is : second ≡ as_late (get_or (held_as AudioSequenceHeader (held 2 s) ++ held_as VideoKeyframe (held 3 s)) j no_frame) =
      ds ∙ rw (third-is, dm, a) (late_step AudioSequenceHeader s.lengths.audio s.audio (held_as VideoKeyframe (held 3 s)) j) in
      let first-is : first ≡ as_late (late_frame s i) =
      df ∙ rw (second_is, dj, v) (late_step VideoSequenceHeader s.lengths.video s.video (held_as AudioSequenceHeader (held 2 s) ++ held_as VideoKeyframe (held 3 s)) i) in
      let count-is : x + y + z ≡ length (late_frames s) = rw (as_count video x dx, as_count audio y dy, as_count keyframe z dz, v, a, k) (late_counts s) in
      rw (count-is, first-is) refl

-- WHERE THE BYTES ARE: in front of the buffer of the frame's kind
abbrev pub buffer_for : CacheFrameKind → Store → List ℕ
buffer_for LiveOnly s = []
buffer_for VideoSequenceHeader s = s.video
buffer_for AudioSequenceHeader s = s.audio
buffer_for VideoKeyframe s = s.keyframe

pub record InFront (s : Store) (f : HeldFrame) : Type 0 where
  pub inside : length f.bytes ≤ length (buffer_for f.kind s)
  pub front : take (length f.bytes) (buffer_for f.kind s) ≡ f.bytes

held_front : (s : Store) (kind : CacheFrameKind) (n : ℕ) → is_held n (buffer_for kind s) ≡ true → InFront s (record { kind = kind; bytes = take n (buffer_for kind s) })
held_front s kind n e =
    let l = held_inside n (buffer_for kind s) e in
    let m = length-take-le n (buffer_for kind s) l in
    record { inside = omega (arith, m); front = ap (λ (j : ℕ). take j (buffer_for kind s)) m }

-- a property of the frame of any number: of a slot's frame, and of those behind it
each : (P : HeldFrame → Type 0) (kind : CacheFrameKind) (n : ℕ) (buffer : List ℕ) (others : List HeldFrame)
    → (is_held n buffer ≡ true → P (record { kind = kind; bytes = take n buffer })) → ((i : ℕ) → P (get_or others i no_frame))
    → (i : ℕ) → P (get_or (held_as kind (held_in n buffer) ++ others) i no_frame)
each P kind n buffer others own behind = go (is_held n buffer) refl
  where
    go : (b : Bool) → is_held n buffer ≡ b → (i : ℕ) → P (get_or (held_as kind (cond b (some (take n buffer)) none) ++ others) i no_frame)
    go true e zero = own e
    go true e (suc i) = behind i
    go false e i = behind i

pub late_front : (s : Store) (i : ℕ) → InFront s (late_frame s i)
unfolding late_frame late_frames held
late_front s =
    each (InFront s) VideoSequenceHeader s.lengths.video s.video (held_as AudioSequenceHeader (held 2 s) ++ held_as VideoKeyframe (held 3 s))
    (held_front s VideoSequenceHeader s.lengths.video)
    (each (InFront s) AudioSequenceHeader s.lengths.audio s.audio (held_as VideoKeyframe (held 3 s)) (held_front s AudioSequenceHeader s.lengths.audio)
    (rw (← append-nil (held_as VideoKeyframe (held 3 s)))
    (each (InFront s) VideoKeyframe s.lengths.keyframe s.keyframe [] (held_front s VideoKeyframe s.lengths.keyframe) (λ i. record { inside = omega arith; front = refl }))))

-- what the functions cut out
module _ (s : Store) (i : ℕ) (info : LateInfo) (e : info ≡ late_info s i) (kind : CacheFrameKind) (k : info.kind ≡ kind) where
  same : InFront s (record { kind = kind; bytes = (late_frame s i).bytes })
  unfolding late_info
  same = let q : (late_frame s i).kind ≡ kind = sym (ap (λ (l : LateInfo). l.kind) e) ∙ k in rw (← q) (late_front s i)

  long : info.length ≡ length (late_frame s i).bytes
  unfolding late_info
  long = ap (λ (l : LateInfo). l.length) e

  pub part_inside : info.length ≤ length (buffer_for kind s)
  part_inside = let l = same.inside in omega (arith, long)

  pub part_long : info.length ≡ length (take info.length (buffer_for kind s))
  part_long = sym (length-take-le info.length (buffer_for kind s) part_inside)

  pub part_front : take info.length (buffer_for kind s) ≡ (late_frame s i).bytes
  part_front = rw long same.front

pub part_none : (s : Store) (i : ℕ) (info : LateInfo) → info ≡ late_info s i → info.kind ≡ LiveOnly → [] ≡ (late_frame s i).bytes
part_none s i info e k = go (late_frame s i).bytes (same s i info e LiveOnly k).inside
  where
    go : (b : List ℕ) → length b ≤ 0 → [] ≡ b
    go [] l = refl
    go (x ∷ b) l = absurd (omega arith)
