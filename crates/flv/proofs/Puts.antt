-- Laws of what is put into an output, for each exit of the writers.
use mathlib.Core.Path.{◌≡◌, refl, sym, ap, ◌∙◌}
use mathlib.Core.List.{List, ◌++◌, append_assoc}
use Prim.Native.Nat.{ℕ, ◌+◌, ◌≤◌}
use native.Mathlib.Omega.{arith}
use lib.ListN.{length, length-append}
use borrow.Author.Tests.{le-ltb}
use Rattle.std.proofs.lemmas.Bool.Decides.{nat_tests}
use Rattle.wire.specs.Wire.{bytes32}
use Rattle.types.specs.declared.ErrorCode.{ErrorCode}
use Rattle.types.specs.declared.ErrorCode.TheVariants as error
use Rattle.outputs.specs.Outputs.{in_front, with_at, put_at}
use Rattle.outputs.proofs.Laws.{put_room, with_more, with_front, length_with}
use Rattle.types.proofs.Laws.{only_ok}
use Rattle.std.specs.Prelude.{◌↔◌}
use Rattle.writers.specs.Writing.{or_short}
use Rattle.writers.proofs.Outputs.{call_leaves_lem}
use Rattle.flv.specs.Files.{tag_bytes, Frame}
use Rattle.flv.specs.Calls.{start_bytes, written_head, written_tag, given_frame, frame_fault, start_answer, start_output, frame_write_error, frame_answer, frame_output}
use Rattle.flv.specs.Claims.{Writable, WrittenIff, StartLeaves, FrameLeaves}

-- HEAD, BODY AND POINTER, one behind the other
put_more : (out x y : List ℕ) → length x + length y ≤ length out → put_at (with_at out 0 x) (length x) y ≡ with_at out 0 (x ++ y)
put_more out x y l =
    let z : 0 + length x ≡ length x = omega arith in
    put_room (with_at out 0 x) (length x) y (omega (arith, length_with out 0 x (omega arith)))
    ∙ ap (λ (i : ℕ). with_at (with_at out 0 x) i y) (sym z)
    ∙ with_more out 0 x y (omega arith)

pieces_put : (head body pointer out : List ℕ) (n : ℕ) → length head ≡ n → n + (length body + length pointer) ≤ length out
    → put_at (put_at (put_at out 0 head) n body) (n + length body) pointer ≡ in_front (head ++ (body ++ pointer)) out
pieces_put head body pointer out n e l =
    let k : length (head ++ body) ≡ n + length body = length-append head body ∙ ap (λ (m : ℕ). m + length body) e in
    rw (
      ← k,
      ← e,
      put_room out 0 head (omega arith),
      put_more out head body (omega arith),
      put_more out (head ++ body) pointer (omega arith),
      append_assoc head body pointer,
    ) (with_front out (head ++ (body ++ pointer)))

tag_put : (type time : ℕ) (body out : List ℕ) → length body + 15 ≤ length out
    → put_at (put_at (put_at out 0 (written_head type time (length body))) 11 body) (11 + length body) (bytes32 (length body + 11))
    ≡ in_front (tag_bytes (written_tag (given_frame type time body))) out
tag_put type time body out l = pieces_put (written_head type time (length body)) body (bytes32 (length body + 11)) out 11 refl (omega arith)

pub tag_long : (f : Frame) → length (tag_bytes (written_tag f)) ≡ length f.body + 15
tag_long f = simp length-append (omega arith)

pub frame_put : (type time : ℕ) (body out : List ℕ) → type ≤ 2 → length body ≤ 16777215 → length body + 15 ≤ length out
    → put_at (put_at (put_at out 0 (written_head type time (length body))) 11 body) (11 + length body) (bytes32 (length body + 11))
    ≡ frame_output (given_frame type time body) out
unfolding frame_fault frame_output or_short
frame_put type time body out a b l =
    let e = tag_put type time body out l in
    let n = tag_long (given_frame type time body) in
    grind (arith, nat_tests)

-- WHAT THE WRITERS LEAVE
room_of : (e : ErrorCode) (room : ℕ) (written : List ℕ) → or_short e room written ≡ error.Ok → (e ≡ error.Ok) × (length written ≤ room)
unfolding or_short
room_of e room written q = grind (arith, nat_tests, only_ok)

pub start_leaves_lem : StartLeaves
unfolding StartLeaves start_answer start_output
start_leaves_lem out = call_leaves_lem (or_short error.Ok (length out) start_bytes) start_bytes out (λ ok. (room_of error.Ok (length out) start_bytes ok).1)

pub frame_leaves_lem : FrameLeaves
unfolding FrameLeaves frame_answer frame_output
frame_leaves_lem f out =
    call_leaves_lem (frame_write_error f (length out)) (tag_bytes (written_tag f)) out (λ ok. (room_of (frame_fault f.type (length f.body)) (length out) (tag_bytes (written_tag f)) ok).1)

-- WRITTEN IFF
fault_iff : (type size : ℕ) → (frame_fault type size ≡ error.Ok) ↔ ((type ≤ 2) × (size ≤ 16777215))
unfolding frame_fault
fault_iff type size = (λ q. (grind (arith, nat_tests), grind (arith, nat_tests)), λ h. grind (arith, nat_tests))

pub written_iff_lem : WrittenIff
unfolding WrittenIff or_short
written_iff_lem f room t = (only, all)
  where
    only : frame_write_error f room ≡ error.Ok → Writable f × (length f.body + 15 ≤ room)
    only q =
        let r = room_of (frame_fault f.type (length f.body)) room (tag_bytes (written_tag f)) q in
        let n = (fault_iff f.type (length f.body)).0 r.0 in
        (record { type = n.0; time = t; body = n.1 }, omega (arith, r.1, tag_long f))

    all : Writable f × (length f.body + 15 ≤ room) → frame_write_error f room ≡ error.Ok
    all w = rw ((fault_iff f.type (length f.body)).1 (w.0.type, w.0.body), le-ltb room (length (tag_bytes (written_tag f))) (omega (arith, w.1, tag_long f))) refl
