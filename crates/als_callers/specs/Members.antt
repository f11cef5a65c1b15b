-- Whose address is one of a block, and whose may come.
use Rattle.std.specs.Prelude.{◌≡◌, ◌⊎◌, List, [], Contains}
use Rattle.std.specs.declared.net.ip_addr.IpAddr.{IpAddr}
use Rattle.als_callers.specs.declared.block.Block.{Block}
use Rattle.als_callers.specs.Blocks.{IsCanonical, HaveSameFront}

-- the address is one of the block
abbrev pub Has : Block → IpAddr → Type 0
Has block peer = (own : IpAddr) × IsCanonical peer own × HaveSameFront block.bits block.addr own

-- one of the blocks has the address
abbrev pub OneHas : List Block → IpAddr → Type 0
OneHas blocks peer = (block : Block) × Contains blocks block × Has block peer

-- the address may come: no block is named, or one has it
abbrev pub Admits : List Block → IpAddr → Type 0
Admits blocks peer = (blocks ≡ []) ⊎ OneHas blocks peer
