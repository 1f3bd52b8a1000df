-- The job of a request for a path with a query.
use Rattle.std.specs.Prelude.{ℕ, false, List, []}
use Rattle.asp_job.specs.declared.job.Asked.TheVariants.{Fresh}
use Rattle.asp_job.specs.declared.job.Job.{Job}
use Rattle.asp_job.specs.declared.job.Work.TheVariants.{Page}
use Rattle.asp_job.specs.declared.request.Request.{Request}
use Rattle.asp_job.specs.declared.request.Verb.TheVariants.{Get}

-- a request for the path with the query, without header fields and without a body (RFC 9112, section 3)
abbrev pub request_of : List ℕ → List ℕ → Request
request_of path query = record {
  verb = Get;
  path = path;
  query = query;
  minor = 1;
  headers = [];
  body = [];
  close = false;
}

-- the job of the request: a page's, at moment 0, with a new key
abbrev pub job_of : List ℕ → List ℕ → Job
job_of path query = record { work = Page (request_of path query); moment = 0; asked = Fresh }
