use Rattle.mk_jobs.proofs.working.fn.work_beside.beside_markers+FnOnce.call_once.Goals as goal

-- What the bounds of the type parameters say of the closure: by hand, since a search doesn't look so far.
pub beside_markers-requires : goal.beside_markers-requires
beside_markers-requires g c =
    let asked = c.requires.1.1.1.1.1.1.1 in
    let bounds = asked.1.1.1.1 in (
      bounds.0,
      (
        bounds.1,
        (
          bounds.2,
          (
            bounds.3,
            (
              bounds.4,
              (
                bounds.5,
                (
                  bounds.6,
                  (
                    asked.0,
                    (
                      asked.1.0,
                      (asked.1.1.0, asked.1.1.1.0),
                    ),
                  ),
                ),
              ),
            ),
          ),
        ),
      ),
    )
