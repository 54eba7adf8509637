use Rattle.rx_main.proofs.ScanMatches as scans
use Rattle.rx_main.proofs.laws.scan_tells_matches.Goals as goal

pub returns : goal.returns
returns c = scans.scan_tells_matches
