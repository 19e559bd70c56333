-- What is claimed of histories that begin with fresh columns, for one number of viewers n and one uplink U. The calls' own contracts say more: they are equations.
use Rattle.std.specs.Prelude.{◌≡◌, true, List, ℕ, ◌*◌, ◌≤◌, ◌<◌, pos, ◌+ℤ◌, Err}
use Rattle.types.specs.declared.ErrorCode.TheVariants as error
use Rattle.uplink.specs.Uplink.{most_viewers, most_uplink, credit_ok, share_of, tick_error, credit_of, offer_answer, offer_credits, offer_waiting}
use Rattle.uplink.specs.Histories.{Event, Sharer, Fresh, run_sharer, decisions, own, ticks, sent_to, cut_off, alone}
use Rattle.types.specs.declared.ErrorCode.{ErrorCode}

-- ISOLATION: a viewer's decisions are the same for all frames offered to others, its own frames and the ticks in their order being equal
unfoldable pub Isolation : Type 0
Isolation =
    (n u v : ℕ) (es es' : List Event) (s s' : Sharer) → Fresh n s → Fresh n s' → own v es ≡ own v es'
    → decisions v n u es s ≡ decisions v n u es' s'

-- and they are those of the viewer alone
unfoldable pub Alone : Type 0
Alone =
    (n u v : ℕ) (es : List Event) (s : Sharer) → v < n → n ≤ most_viewers → Fresh n s
    → decisions v n u es s ≡ alone n u (own v es) (pos 0) 0

-- CONSERVATION: a viewer's shares equal its bytes sent plus credit left plus credit cut off at the limit
unfoldable pub Conservation : Type 0
Conservation =
    (n u v : ℕ) (es : List Event) (s : Sharer) → v < n → n ≤ most_viewers → u ≤ most_uplink → Fresh n s
    → pos (ticks es * share_of u n) ≡ pos (sent_to v n u es s) +ℤ credit_of (run_sharer n u es s).credits v +ℤ pos (cut_off v n u es s)

-- EVERY CREDIT STAYS IN RANGE
unfoldable pub StaysInRange : Type 0
StaysInRange = (n u v : ℕ) (es : List Event) (s : Sharer) → v < n → Fresh n s → credit_ok (credit_of (run_sharer n u es s).credits v) ≡ true

-- so that no tick is refused
unfoldable pub TicksTaken : Type 0
TicksTaken =
    (n u : ℕ) (es : List Event) (s : Sharer) → 1 ≤ n → n ≤ most_viewers → u ≤ most_uplink → Fresh n s → tick_error n u (run_sharer n u es s).credits ≡ error.Ok

-- A REFUSED OFFER changes no entry, whatever the columns are
unfoldable pub RefusedKept : Type 0
RefusedKept =
    (n v hint size : ℕ) (s : Sharer) (e : ErrorCode) → offer_answer n v hint size s.credits s.waiting ≡ Err e
    → (offer_credits n v hint size s.credits s.waiting ≡ s.credits) × (offer_waiting n v hint size s.credits s.waiting ≡ s.waiting)
