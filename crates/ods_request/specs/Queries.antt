-- Queries are requests.
use Rattle.ods_request.specs.declared.requests.Request.{Request}
use Rattle.ods_request.specs.declared.requests.Request.TheVariants.{LookUp, Read, Stat}
use Rattle.ods_request.specs.declared.requests.Query.{Query}
use Rattle.ods_request.specs.declared.requests.Query.TheVariants as query

-- a query as a request
abbrev pub request_of : Query → Request
request_of (query.LookUp dir name pick) = LookUp dir name pick
request_of (query.Read file vbn) = Read file vbn
request_of (query.Stat file) = Stat file
