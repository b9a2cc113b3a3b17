-- Places of pieces, and components that they are of.
use Rattle.std.proofs.Common.{◌≡◌, ℕ, sym, ◌∙◌, arith}
use Rattle.control_graph.specs.declared.pieces.Order.{Order}
use Rattle.control_graph.specs.declared.place.Place.{Place}
use Rattle.control_graph.specs.Orders.{StandsAt}

-- two places at one position are the same
pub same-stands : (order : Order) (x p q : ℕ) → StandsAt order x p → StandsAt order x q → p ≡ q
same-stands order x p q P Q = sym (P some) ∙ Q some
  where
    some : Place
    some = record { pc = 0; inside = omega arith }
