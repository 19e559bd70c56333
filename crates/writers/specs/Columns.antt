-- Lent columns: entry i of each says one thing of track i, or of layer i. Bodies and data are parts of one lent string.
use Rattle.std.specs.Prelude.{Bool, false, not, ◌||◌, List, [], ◌∷◌, map, ℕ, zero, suc, ◌+◌, eqb, ltb, length, get_or}
use Rattle.wire.specs.Wire.{part, be32_at}
use Rattle.multitrack_media.specs.declared.TrackPlace.{TrackPlace}
use Rattle.writers.specs.declared.columns.TrackColumns.{TrackColumns}

-- THE COLUMNS OF TRACKS: ids, FourCCs as big-endian numbers, and where each body starts and how long it is
pub record Columns : Type 0 where
  pub ids : List ℕ
  pub fourccs : List ℕ
  pub starts : List ℕ
  pub lengths : List ℕ

-- what lent columns say
abbrev pub asked_columns : TrackColumns → Columns
asked_columns t = record { ids = t.ids.now; fourccs = t.fourccs.now; starts = t.starts.now; lengths = t.lengths.now }

-- those of tracks that a reader found
abbrev pub columns_of : List TrackPlace → Columns
columns_of tracks =
    record {
      ids = map (λ (t : TrackPlace). t.id) tracks;
      fourccs = map (λ (t : TrackPlace). be32_at t.fourcc 0) tracks;
      starts = map (λ (t : TrackPlace). t.start) tracks;
      lengths = map (λ (t : TrackPlace). t.length) tracks;
    }

-- entry i of a column
abbrev pub entry : List ℕ → ℕ → ℕ
entry column i = get_or column i 0

-- part i of a lent string, by the columns of starts and lengths; whether it leaves the string, all as plain numbers
abbrev pub lent_part : List ℕ → List ℕ → List ℕ → ℕ → List ℕ
lent_part lent starts lengths i = part lent (entry starts i) (entry lengths i)

abbrev pub leaves : List ℕ → List ℕ → List ℕ → ℕ → Bool
leaves lent starts lengths i = ltb (length lent) (entry starts i + entry lengths i)

-- whether entry i of a column is outside of these bounds; whether it is another than entry 0
abbrev pub is_outside : ℕ → ℕ → List ℕ → ℕ → Bool
is_outside least most column i = ltb (entry column i) least || ltb most (entry column i)

abbrev pub is_other : List ℕ → ℕ → Bool
is_other column i = not (eqb (entry column i) (entry column 0))

-- over n numbers from i on: the values of f; whether a test holds at one of them; the sum of the values
unfoldable pub values_from : {A : Type 0} → (ℕ → A) → ℕ → ℕ → List A
values_from f i zero = []
values_from f i (suc n) = f i ∷ values_from f (i + 1) n

unfoldable pub some_from : (ℕ → Bool) → ℕ → ℕ → Bool
some_from t i zero = false
some_from t i (suc n) = t i || some_from t (i + 1) n

unfoldable pub sum_from : (ℕ → ℕ) → ℕ → ℕ → ℕ
sum_from f i zero = 0
sum_from f i (suc n) = f i + sum_from f (i + 1) n
