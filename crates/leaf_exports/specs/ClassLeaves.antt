-- Kinds and hints as numbers.
use Rattle.std.specs.Prelude.{List, ℕ, pos, neg_ℤ, Option, Some, None}
use Rattle.init_cache.specs.Kind.{kind_number, cache_kind}
use Rattle.delivery.specs.Hint.{hint_number, hint_from, delivery_hint}
use Rattle.delivery.specs.declared.DeliveryHint.{DeliveryHint}
use Rattle.leaf_exports.specs.declared.class_leaves.LeafNumber.{LeafNumber}

abbrev pub leaf_value : ℕ → LeafNumber
leaf_value n = record { error = pos 0; value = n }

-- a frame type above 3
abbrev pub unknown_type : LeafNumber
unknown_type = record { error = neg_ℤ (pos 21); value = 0 }

abbrev pub leaf_kind : ℕ → List ℕ → LeafNumber
leaf_kind type p = leaf_value (kind_number (cache_kind type p))

abbrev pub leaf_hint : ℕ → ℕ → List ℕ → LeafNumber
leaf_hint flag type p = leaf_value (hint_number (delivery_hint type flag p))

-- the number of the hint that a number names; -1 where it names none
abbrev pub leaf_option : Option DeliveryHint → LeafNumber
leaf_option (Some h) = leaf_value (hint_number h)
leaf_option None = record { error = neg_ℤ (pos 1); value = 0 }

abbrev pub leaf_from : ℕ → LeafNumber
leaf_from n = leaf_option (hint_from n)
