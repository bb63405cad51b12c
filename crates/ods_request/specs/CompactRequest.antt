-- Which requests have a block. A compact request stores this block apart.
use Rattle.std.specs.Prelude.{Bool, true, false}
use Rattle.ods_request.specs.declared.requests.Request.{Request}
use Rattle.ods_request.specs.declared.requests.Request.TheVariants as request

-- the request has a block
abbrev pub has_block : Request → Bool
has_block (request.Write file vbn block) = true
has_block _ = false
