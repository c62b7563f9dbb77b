-- The shape that is asked for (docs/COMMANDS.md, "Shape").
use Rattle.node_env.specs.Env.{Extent, IsExtent}
use Rattle.requests.specs.declared.request.ShapeOptions.{ShapeOptions}

-- the nodes and the memory that are asked for, and whether they make a shape
abbrev pub asked_extent : ShapeOptions → Extent
asked_extent asked = record { nodes = asked.nodes; memory = asked.memory }

abbrev pub HasShape : ShapeOptions → Type 0
HasShape asked = IsExtent asked.nodes asked.memory
