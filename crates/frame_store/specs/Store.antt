-- The store of one route, call by call (docs/REQUIREMENTS.md, section 23, N8). A slot is a lent buffer and the length of what it holds.
use Rattle.std.specs.Prelude.{Bool, cond, not, ◌&&◌, List, ℕ, eqb, ltb, leb, length, take}
use Rattle.std.proofs.Math.Option.{Option, none, some}
use Rattle.types.specs.Types.{is_ok}
use Rattle.types.specs.declared.ErrorCode.{ErrorCode}
use Rattle.types.specs.declared.ErrorCode.TheVariants as error
use Rattle.outputs.specs.Outputs.{in_front}
use Rattle.modex.specs.Modex.{peeled}
use Rattle.init_cache.specs.Kind.{kind_number, cache_kind}
use Rattle.frame.specs.Pass.{pass_error, pass_report}
use Rattle.frame_store.specs.declared.StoreLengths.{StoreLengths}
use Rattle.frame_store.specs.declared.StoreAnswer.{StoreAnswer}

-- a store as it is lent to a call
pub record Store : Type 0 where
  pub lengths : StoreLengths
  pub video : List ℕ
  pub audio : List ℕ
  pub keyframe : List ℕ

abbrev pub lent_store : StoreLengths → List ℕ → List ℕ → List ℕ → Store
lent_store lengths video audio keyframe = record { lengths = lengths; video = video; audio = audio; keyframe = keyframe }

-- the record of an empty store
abbrev pub no_lengths : StoreLengths
no_lengths = record { video = 0; audio = 0; keyframe = 0 }

-- slot k is for frames of kind k: 1 video sequence header, 2 audio sequence header, 3 keyframe; nothing asks for another k
abbrev pub buffer_of : ℕ → Store → List ℕ
buffer_of k s = cond (eqb k 1) s.video (cond (eqb k 2) s.audio s.keyframe)

abbrev pub length_of : ℕ → StoreLengths → ℕ
length_of k l = cond (eqb k 1) l.video (cond (eqb k 2) l.audio l.keyframe)

-- WHAT A SLOT HOLDS: the front of its buffer. Empty is length 0; one past its buffer counts as empty
unfoldable pub is_held : ℕ → List ℕ → Bool
is_held n buffer = ltb 0 n && leb n (length buffer)

abbrev pub held_in : ℕ → List ℕ → Option (List ℕ)
held_in n buffer = cond (is_held n buffer) (some (take n buffer)) none

unfoldable pub held : ℕ → Store → Option (List ℕ)
held k s = held_in (length_of k s.lengths) (buffer_of k s)

-- a frame longer than its slot is refused
abbrev pub fits : List ℕ → List ℕ → Bool
fits bytes buffer = leb (length bytes) (length buffer)

unfoldable pub is_too_long : ℕ → List ℕ → Store → Bool
is_too_long kind bytes s = not (eqb kind 0) && not (fits bytes (buffer_of kind s))

-- THE LENGTH OF SLOT k after a frame of this kind, with these bytes: of its own kind theirs, or 0 if they do not fit; a video header empties the keyframe,
-- fit or not
unfoldable pub length_after : ℕ → ℕ → List ℕ → Store → ℕ
length_after k kind bytes s =
    cond (eqb kind k) (cond (fits bytes (buffer_of k s)) (length bytes) 0)
    (cond (eqb k 3 && eqb kind 1) 0 (length_of k s.lengths))

-- AND ITS BUFFER: a frame of its own kind that fits in front, the bytes behind it kept; else all are kept
unfoldable pub buffer_after : ℕ → ℕ → List ℕ → Store → List ℕ
buffer_after k kind bytes s = cond (eqb kind k && fits bytes (buffer_of k s)) (in_front bytes (buffer_of k s)) (buffer_of k s)

unfoldable pub keep_in : Store → ℕ → List ℕ → Store
keep_in s kind bytes =
    record {
      lengths = record { video = length_after 1 kind bytes s; audio = length_after 2 kind bytes s; keyframe = length_after 3 kind bytes s };
      video = buffer_after 1 kind bytes s;
      audio = buffer_after 2 kind bytes s;
      keyframe = buffer_after 3 kind bytes s;
    }

-- a frame as it is offered: its type, capability mask, route flag and payload, and the length of the output that is lent for its result
pub record Frame : Type 0 where
  pub type : ℕ
  pub mask : ℕ
  pub flag : ℕ
  pub payload : List ℕ
  pub room : ℕ

abbrev pub offered : ℕ → ℕ → ℕ → List ℕ → ℕ → Frame
offered type mask flag p room = record { type = type; mask = mask; flag = flag; payload = p; room = room }

abbrev pub error_of : Frame → ErrorCode
error_of f = pass_error f.type f.mask f.payload f.room

abbrev pub accepts : Frame → Bool
accepts f = is_ok (error_of f)

abbrev pub result_of : Frame → List ℕ
result_of f = peeled f.type f.mask f.payload

-- the kind of a frame that the whole pass accepts; one that it refuses is kept nowhere, as one of kind 0
unfoldable pub kept_kind : Frame → ℕ
kept_kind f = cond (accepts f) (kind_number (cache_kind f.type (result_of f))) 0

-- ONE CALL: the whole pass, and then the store
unfoldable pub store_after : Frame → Store → Store
store_after f s = keep_in s (kept_kind f) (result_of f)

-- the pass's refusals come first, and its report stands beside -31: the frame is still relayed
unfoldable pub store_error : Frame → Store → ErrorCode
store_error f s = cond (is_too_long (kept_kind f) (result_of f) s) error.SlotTooShort (error_of f)

unfoldable pub store_answer : Frame → Store → StoreAnswer
store_answer f s = record { error = store_error f s; report = pass_report f.type f.mask f.flag f.payload f.room }
