-- The forms of a compact request.
use Rattle.ods_request.specs.declared.requests.Request.{Request}
use Rattle.ods_request.specs.declared.requests.Request.TheVariants as request
use Rattle.ods_request.specs.declared.compact_request.RequestForm.{RequestForm}
use Rattle.ods_request.specs.declared.compact_request.RequestForm.TheVariants as form

-- the request that the form stores
abbrev pub request_in : RequestForm → Request
request_in (form.Create name version blocks stamp) = request.Create name version blocks stamp
request_in (form.Extend file blocks) = request.Extend file blocks
request_in (form.Truncate file blocks) = request.Truncate file blocks
request_in (form.Delete file) = request.Delete file
request_in (form.Enter dir name version file) = request.Enter dir name version file
request_in (form.LookUp dir name pick) = request.LookUp dir name pick
request_in (form.Remove dir name pick) = request.Remove dir name pick
request_in (form.Read file vbn) = request.Read file vbn
request_in (form.Write file vbn block) = request.Write file vbn block.value
request_in (form.List dir) = request.List dir
request_in (form.Stat file) = request.Stat file
request_in (form.SetUser file attributes) = request.SetUser file attributes
