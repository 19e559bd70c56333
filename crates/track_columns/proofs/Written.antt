-- THE COLUMNS LENT TO THE CONTAINER WRITER: it writes the payload that was walked.
use mathlib.Core.Path.{◌≡◌, refl, sym, ap, ap₂, ◌∙◌}
use mathlib.Core.Bool.{cond}
use mathlib.Core.Option.{some, some-injective}
use mathlib.Core.List.{List, [], map}
use Prim.Native.Nat.{ℕ, ◌≤◌, ◌<◌}
use native.Mathlib.Omega.{arith}
use lib.Dec.{eqb}
use lib.ListN.{length}
use Rattle.wire.specs.Wire.{Bytes, be32_at, bytes32}
use Rattle.outputs.specs.Outputs.{in_front}
use Rattle.multitrack_media.specs.Tracks.{Track}
use Rattle.multitrack_media.specs.Container.{Container, container_bytes, container_of, no_place}
use Rattle.multitrack_media.specs.declared.TrackPlace.{TrackPlace}
use Rattle.multitrack_media.proofs.Answers.{get_d_map, container_facts_lem}
use Rattle.writers.specs.Columns.{Columns, entry}
use Rattle.writers.specs.ContainerWriter.{ContainerCall, first_byte, second_byte, shared_fourcc, given_track, container_written}
use Rattle.writers.specs.Claims.{WritableContainer, call_of}
use Rattle.writers.proofs.Entries.{values_same}
use Rattle.writers.proofs.Refusals.{container_taken_lem}
use Rattle.writers.proofs.Rewritten.{accepted_written_lem, accepted_fine}
use Rattle.track_columns.specs.Columns.{shortest, filled}
use Rattle.track_columns.specs.Claims.{call_with, ColumnsWritten}
use Rattle.track_columns.proofs.Walking.{front_entry, filled_kept, walked, after_fine}

-- THE WRITER looks at no entry past the count
module _ (type : ℕ) (p : List ℕ) (bytes : Bytes p) (k : Container) (q : container_of type p ≡ some k) (c : Columns) (enough : length k.tracks ≤ shortest c) where
  abbrev ts : List TrackPlace
  ts = k.tracks

  abbrev lent : ContainerCall
  lent = call_with type p k (filled ts c)

  abbrev own : ContainerCall
  own = call_of type p k

  module _ (i : ℕ) (l : i < length ts) where
    same : (f : TrackPlace → ℕ) (column : List ℕ) → entry (in_front (map f ts) column) i ≡ entry (map f ts) i
    same f column = front_entry f ts column i l ∙ sym (get_d_map f ts i no_place 0 l)

    same_id : entry lent.columns.ids i ≡ entry own.columns.ids i
    same_id = same (λ (t : TrackPlace). t.id) c.ids

    same_fourcc_lem : entry lent.columns.fourccs i ≡ entry own.columns.fourccs i
    same_fourcc_lem = same (λ (t : TrackPlace). be32_at t.fourcc 0) c.fourccs

    same_start : entry lent.columns.starts i ≡ entry own.columns.starts i
    same_start = same (λ (t : TrackPlace). t.start) c.starts

    same_length : entry lent.columns.lengths i ≡ entry own.columns.lengths i
    same_length = same (λ (t : TrackPlace). t.length) c.lengths

    same_track : given_track lent i ≡ given_track own i
    same_track = rw (same_id, same_fourcc_lem, same_start, same_length) refl

  least : 0 < length ts
  least = (container_facts_lem type p k q).least

  pub lent_written : container_written lent ≡ p
  unfolding container_written shared_fourcc first_byte second_byte
  lent_written =
      ap₂ (λ (x : ℕ) (us : List Track). container_bytes (record { byte0 = first_byte own; byte1 = second_byte own; shared = cond (eqb own.form 2) [] (bytes32 x); tracks = us }))
      (same_fourcc_lem 0 least) (values_same (given_track lent) (given_track own) 0 (length ts) (λ j l m. same_track j (omega arith)))
      ∙ accepted_written_lem type p bytes k q

  pub lent_writable : WritableContainer lent
  lent_writable =
      let f = accepted_fine type p bytes k q in
      let w = filled_kept ts c enough in
      record {
        media = f.media;
        form = f.form;
        least = f.least;
        limit = f.limit;
        ids = omega (arith, w.ids.long);
        fourccs = omega (arith, w.fourccs.long);
        starts = omega (arith, w.starts.long);
        lengths = omega (arith, w.lengths.long);
        inside = λ i l. rw (same_start i l, same_length i l) (f.inside i l);
        bodies = λ m i l. rw (same_length i l) (f.bodies m i l);
        same = λ z i l. rw (same_fourcc_lem i l, same_fourcc_lem 0 least) (f.same z i l);
        frame = f.frame;
        packet = f.packet;
        other = f.other;
      }

pub columns_written_lem : ColumnsWritten
unfolding ColumnsWritten
columns_written_lem type p c k bytes q ok room l =
    let w = walked type p (shortest c) ok in
    let same : w.container ≡ k = some-injective _ _ (sym w.read ∙ q) in
    let enough : length k.tracks ≤ shortest c = omega (arith, w.enough, ap (λ (m : Container). length m.tracks) same) in
    let v = lent_written type p bytes k q c enough in
    rw (after_fine type p c k ok q) (container_taken_lem (call_with type p k (filled k.tracks c)) (lent_writable type p bytes k q c enough) room (rw v l), v)
