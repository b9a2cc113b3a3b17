use Rattle.vm_file.proofs.PlaceLaws.{PlacesFrom}
use Rattle.vm_file.proofs.places.put_places.Given as goal

abbrev pub invariant-loop-i : goal.invariant-loop-i
invariant-loop-i l = PlacesFrom l.entries l.i l.place l.places

abbrev pub decreases-loop-i : goal.decreases-loop-i
decreases-loop-i l = l.i
